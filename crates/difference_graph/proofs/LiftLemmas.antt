-- Numbers that are all raised by as much: what they still meet, and when they are near to 0.
use Rattle.std.proofs.Common.{◌≡◌, sym, subst, ℕ, ◌<◌, List, length, arith, ℤ, pos, ◌+ℤ◌, ◌-ℤ◌, ◌≤ℤ◌, ◌<ℤ◌}
use Rattle.std.specs.Prelude.{All}
use Rattle.std.proofs.lemmas.Int.{ints}
use Rattle.std.proofs.lemmas.List.{get_or_default}
use Rattle.neg_cycle.specs.Systems.{IsEdge, number_of}
use Rattle.difference_graph.specs.Gaps.{IsNumber, IsNearNumber, IsNarrow, HasSameDifferences, IsLifted, KeepsMet, IsNextBelow, IsRaisedBelow}

-- the greatest number is raised to 0, and the others by as much
pub lifted : (old new : List ℤ) (greatest by : ℤ) → All IsNumber old → IsNextBelow old (pos 1) greatest → by ≡ pos 0 -ℤ greatest → IsRaisedBelow (pos 1) by old new → IsLifted old new
lifted old new greatest by numbers n is_by raised = record {
  count = raised.count;
  by = by;
  rises = omega (arith, ints, n.below, is_by);
  each = raised_each;
  high = λ v within.
      let most : number_of old v ≤ℤ greatest = n.greatest v (pos 0) within (low v within) in
      omega (arith, ints, most, is_by, raised_each v within);
  place = n.place;
  within = n.within;
  top = omega (arith, ints, n.held, is_by, raised_each n.place n.within);
} where
  low : (v : ℕ) → v < length old → number_of old v <ℤ pos 1
  low v within = let number : IsNumber (number_of old v) = numbers v (pos 0) within in omega (arith, ints, number.high)

  raised_each : (v : ℕ) → v < length old → number_of new v ≡ number_of old v +ℤ by
  raised_each v within = raised.low v within (low v within)

module _ (old new : List ℤ) (l : IsLifted old new) where
  pub lifted_numbers : All IsNumber old → All IsNumber new
  lifted_numbers numbers v d below =
      let within : v < length old = omega (arith, l.count, below) in
      let number : IsNumber (number_of old v) = numbers v (pos 0) within in
      let is : IsNumber (number_of new v) = record { low = omega (arith, ints, number.low, l.each v within, l.rises); high = l.high v within } in
      rw (get_or_default new v d (pos 0) below) is

  pub lifted_met : KeepsMet old new
  lifted_met e edge meets = omega (arith, ints, meets, l.each e.from edge.from, l.each e.to edge.to)

  pub lifted_same : 0 < length old → HasSameDifferences old new
  lifted_same some v within = omega (arith, ints, l.each v within, l.each 0 some)

  -- where no number is far above another, they are near to 0 now
  pub lifted_near : IsNarrow old → All IsNearNumber new
  lifted_near narrow v d below =
      let within : v < length old = omega (arith, l.count, below) in
      let close = narrow l.place v l.within within in
      let is : IsNearNumber (number_of new v) = record { low = omega (arith, ints, close, l.top, l.each l.place l.within, l.each v within); high = l.high v within } in
      rw (get_or_default new v d (pos 0) below) is

-- one after the other
pub keeps_both : (first second third : List ℤ) → length second ≡ length first → KeepsMet first second → KeepsMet second third → KeepsMet first third
keeps_both first second third count one two e edge meets = two e (subst (λ (n : ℕ). IsEdge n e) (sym count) edge) (one e edge meets)
