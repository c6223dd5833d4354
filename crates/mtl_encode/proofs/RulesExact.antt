-- What satisfies the rules gives a timing in which the formula has the value sought.
use Rattle.std.proofs.Common.{◌≡◌, ◌∙◌, sym, ap, refl, suc, ◌-◌, Bool, true, not, if◌then◌else◌, List, [], ◌∷◌, length, inl, inr, ℤ, ◌-ℤ◌, ◌≤ℤ◌, arith}
use Rattle.std.specs.Prelude.{Any, int_le}
use Rattle.std.proofs.lemmas.Int.{ints}
use Rattle.mt_model.specs.Timing.{time_of}
use Rattle.mt_model.specs.Truth.{truth, truth_of}
use Rattle.mt_model.specs.TruthLaws.{TruthByRows}
use Rattle.mt_model.proofs.Members.{Among, any_some, some_any}
use Rattle.formula_arena.specs.Cores.{core_of}
use Rattle.formula_arena.specs.Laws.{CoresAreCores, NodesAreSubtrees, TruthOfCore}
use Rattle.formula_arena.specs.Nodes.{nodes_of}
use Rattle.axiom_rules.specs.declared.literal.Atom.{Atom}
use Rattle.axiom_rules.specs.declared.literal.Atom.TheVariants.{Node, Order}
use Rattle.axiom_rules.specs.declared.rule.Rule.{Rule}
use Rattle.axiom_rules.specs.Sought.{Sought, sought_of}
use Rattle.mtl_encode.specs.Exact.{AgreesWith, OccursInKept, RulesAreExact, SatisfiesKept, literal_is_true}
use Rattle.mtl_encode.specs.Needless.{is_needless}
use Rattle.mtl_encode.proofs.ExtremeUses.{bounds-times}
use Rattle.mtl_encode.proofs.NodeLemmas.{node-core}
use Rattle.mtl_encode.proofs.NodeUses.{first-exact, root-exact}
use Rattle.mtl_encode.proofs.NodesExact.{node-exact}

-- the truth values, but for the order atoms those that a timing gives
abbrev with_times : List ℤ → (Atom → Bool) → Atom → Bool
with_times t v (Order e f c) = int_le (time_of t e -ℤ time_of t f) c
with_times t v a = v a

any-among : {X : Type 0} (P : X → Type 0) (xs : List X) (x : X) → Among xs x → P x → Any P xs
any-among P [] x in_ h = absurd in_
any-among P (y ∷ ys) x (inl here) h = (0, x, (omega arith), here, h)
any-among P (y ∷ ys) x (inr there) h = let (k, z, low, at, is) = any-among P ys x there h in (suc k, z, (omega (arith, low)), at, is)

-- an order atom that occurs in no clause may be given the value of the timing
module _ (s : Sought) (out : Rule → Bool) (v : Atom → Bool) (t : List ℤ) (agrees : AgreesWith s out v t) where
  same-value : (a : Atom) → OccursInKept s out a → v a ≡ with_times t v a
  same-value (Order e f c) occurs = agrees e f c occurs
  same-value _ occurs = refl

  satisfied-with_times : SatisfiesKept s out v → SatisfiesKept s out (with_times t v)
  satisfied-with_times satisfied rule c is kept =
      let (l, in_, holds) = any_some (literal_is_true v) c (satisfied rule c is kept) in
      let occurs : OccursInKept s out l.atom = record { rule = rule; clause = c; is_clause = is; kept = kept; stands = any-among (λ m. m.atom ≡ l.atom) c l in_ refl } in
      some_any (literal_is_true (with_times t v)) c l in_ (ap (λ b. if l.positive then b else not b) (sym (same-value l.atom occurs)) ∙ holds)

not_later : (x y : ℤ) → int_le x y ≡ true → x ≤ℤ y
not_later x y h = omega (arith, ints)

pub rules-exact : CoresAreCores → NodesAreSubtrees → TruthOfCore → TruthByRows → RulesAreExact
rules-exact cores nodes core rows log f value x v t valid are ok satisfied agrees =
    let s = sought_of log f value in
    let w = with_times t v in
    let all = satisfied-with_times s (is_needless x s) v t agrees satisfied in
    let bounded = bounds-times log x t are ok in
    let (e, in_, first, earliest) = first-exact s x w all t (λ e f c. refl) bounded in
    let some = (nodes.root f).0 in
    let root = length (nodes_of f) - 1 in
    let exact : w (Node root e) ≡ truth_of log t e (core_of f) =
    node-exact s x w all t (λ e f c. refl) bounded ok.count cores.equality (node-core cores nodes f) (nodes.once f) (nodes.children_first f) (core_of f) root e
    (omega (arith, some)) (nodes.root f).1 in_ in
    let at_first : truth_of log t e (core_of f) ≡ truth log t 0 (core_of f) =
    rows.at_first log t e (core_of f) (omega (arith, in_, ok.count)) (λ k low. not_later (time_of t e) (time_of t k) (earliest k (omega (arith, low, ok.count)))) in
    sym (core.at_position log t 0 f) ∙ sym at_first ∙ sym exact ∙ root-exact s x w all t (λ e f c. refl) bounded e in_ first earliest
