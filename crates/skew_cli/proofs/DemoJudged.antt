-- That no test refuses the formula of the demo, whatever the seed.
use Rattle.std.proofs.Common.{◌≡◌, refl, ap, ℕ, ◌+◌, ◌<◌, ◌≤◌, List, [], ◌∷◌, map, length, None, pos, arith}
use Rattle.std.specs.List.{range_with_len}
use Rattle.std.proofs.lemmas.Fmt.{decimal_digit}
use Rattle.mt_model.specs.declared.log.Host.{Host}
use Rattle.mt_model.specs.Log.{Logged, plain_log}
use Rattle.mt_model.specs.State.{unknown_host}
use Rattle.formula_arena.specs.Nodes.{nodes_of}
use Rattle.formula_arena.specs.declared.arena.TheConstants.{MAX_NODES}
use Rattle.question.specs.Size.{IsSmall}
use Rattle.question.proofs.SizeBounds.{small-cubes}
use Rattle.demo_log.specs.DemoFormula.{demo_formula}
use Rattle.demo_log.specs.DemoLog.{demo_host, demo_row, log_of_seed}

-- a host whose name has these digits
abbrev called : List ℕ → Host
called digits = record { name = 104 ∷ digits; skew = pos 3; gap = pos 1; least = 1; most = None }

demo-host-is : (k : ℕ) → k < 10 → demo_host k ≡ called ((48 + k) ∷ [])
demo-host-is k small = ap called (decimal_digit k small)

same-cons : {X : Type 0} {x y : X} {xs ys : List X} → x ≡ y → xs ≡ ys → x ∷ xs ≡ y ∷ ys
same-cons first rest = rw (first, rest) refl

hosts-are : map demo_host (range_with_len 0 6) ≡ map (λ k. called ((48 + k) ∷ [])) (range_with_len 0 6)
hosts-are =
    same-cons (demo-host-is 0 (omega arith)) (same-cons (demo-host-is 1 (omega arith)) (same-cons (demo-host-is 2 (omega arith))
    (same-cons (demo-host-is 3 (omega arith)) (same-cons (demo-host-is 4 (omega arith)) (same-cons (demo-host-is 5 (omega arith)) refl)))))

abbrev with-hosts : ℕ → List Host → Logged
with-hosts seed hosts = plain_log hosts (map (demo_row seed) (range_with_len 0 24))

pub demo-known : (seed : ℕ) → unknown_host (log_of_seed seed) demo_formula ≡ None
demo-known seed = ap (λ hosts. unknown_host (with-hosts seed hosts) demo_formula) hosts-are

pub demo-few : length (nodes_of demo_formula) ≤ MAX_NODES
demo-few = omega arith

pub demo-small : (seed : ℕ) → IsSmall (log_of_seed seed) (nodes_of demo_formula)
demo-small seed = small-cubes (log_of_seed seed) (nodes_of demo_formula) (omega arith)
