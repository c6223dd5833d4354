-- The times of an admissible timing are within the limit of times.
use Rattle.std.proofs.Common.{arith, ℕ, zero, suc, ◌+◌, ◌<◌, List, [], ◌∷◌, length, map, All, Option, Some, None, ℤ, pos, ◌≤ℤ◌}
use Rattle.std.specs.Prelude.{IfSome, slice_get}
use Rattle.std.specs.Option.{option_map_or}
use Rattle.std.proofs.lemmas.Int.{ints}
use Rattle.std.proofs.lemmas.List.{get_or_default}
use Rattle.std.proofs.lemmas.List.Elements.{All-nil, All-cons, All-head, All-tail}
use Rattle.mt_model.specs.declared.log.Row.{Row}
use Rattle.mt_model.specs.declared.limits.TheConstants.{MAX_LOCAL, MAX_SKEW, MAX_TIME}
use Rattle.mt_model.specs.Log.{IsLog, IsRow, IsWithin, Logged}
use Rattle.mt_model.specs.Timing.{Admissible, local_of, skew_of}
use Rattle.mt_model.specs.Walks.{node_time}
use Rattle.mt_model.proofs.Resyncs.{span-within}

slice_get-all : {X : Type 0} (P : X → Type 0) (xs : List X) (k : ℕ) → All P xs → IfSome (slice_get xs k) P
slice_get-all P [] k all = tt
slice_get-all P (x ∷ xs) zero all = All-head P x xs all
slice_get-all P (x ∷ xs) (suc k) all = slice_get-all P xs k (All-tail P x xs all)

-- what holds of each element of a mapped list
pub all-of-mapped : {A B : Type 0} (P : B → Type 0) (g : A → B) (xs : List A) → All P (map g xs) → All (λ x. P (g x)) xs
all-of-mapped P g [] all = All-nil (λ x. P (g x))
all-of-mapped P g (x ∷ xs) all = All-cons (λ y. P (g y)) x xs (All-head P (g x) (map g xs) all) (all-of-mapped P g xs (All-tail P (g x) (map g xs) all))

module _ (log : Logged) (valid : IsLog log) where
  local-near : (e : ℕ) → IsWithin MAX_LOCAL (local_of log e)
  local-near e = by (slice_get log.rows e) (slice_get-all (IsRow (length log.hosts)) log.rows e (valid.rows).each)
    where
      by : (o : Option Row) → IfSome o (IsRow (length log.hosts)) → IsWithin MAX_LOCAL (option_map_or (λ r. r.local) o (pos 0))
      by None is = record { low = omega (arith, ints); high = omega (arith, ints) }
      by (Some r) is = is.local

  skew-near : (e : ℕ) → skew_of log e ≤ℤ MAX_SKEW
  skew-near e = (span-within log valid e).skew.high

  pub admissible-near : (t : List ℤ) → Admissible log t → (i : ℕ) → i < length log.rows + 1 → IsWithin MAX_TIME (node_time t i)
  admissible-near t admissible zero within = record { low = omega (arith, ints); high = omega (arith, ints) }
  admissible-near t admissible (suc e) within =
      let low = admissible.low e (omega arith) in
      let high = admissible.high e (omega arith) in
      let local = local-near e in
      let skew = skew-near e in
      record {
        low = omega (arith, ints, low, local.low, skew);
        high = omega (arith, ints, high, local.high, skew);
      }

  pub times-near : (t : List ℤ) → Admissible log t → All (IsWithin MAX_TIME) t
  times-near t admissible k d below =
      let near = admissible-near t admissible (suc k) (omega (arith, below, admissible.count)) in
      rw (get_or_default t k d (pos 0) below) near
