-- All variables in another order, and the place of each one.
use Rattle.std.proofs.Common.{◌≡◌, ◌∙◌, sym, ap, subst, ℕ, ◌<◌, List, length, Some, arith}
use Rattle.std.specs.Prelude.{◌≢◌, ◌==◌, All, AllPairs, Contains, slice_get, slice_index, slice_index_or}
use Rattle.std.specs.List.{range_with_len}
use Rattle.std.specs.List.Sorted.{IsPermutation}
use Rattle.std.proofs.lemmas.Bool.Decides.{Decides-eqb}
use Rattle.std.proofs.lemmas.List.{get_or_default}
use Rattle.std.proofs.lemmas.List.FromFn.{get_or-range_with_len, length-range_with_len}
use Rattle.std.proofs.lemmas.List.Sorted.{All-permutation, Contains-permutation, length_permutation}
use Rattle.std.proofs.lemmas.Map.Keys.{IsDistinct-IsPermutation}
use Rattle.std.proofs.lemmas.Map.Made.{AllPairs-from_IsDistinct, IsDistinct-from_AllPairs}
use Rattle.std.proofs.lemmas.Option.{get_or_from_slice_get, slice_get-get_or, slice_get_within}
use Rattle.axiom_rules.specs.declared.literal.Atom.{Atom}
use Rattle.axiom_rules.specs.declared.literal.Atom.TheVariants.{First}
use Rattle.axiom_rules.specs.AtomIndex.{AreTaken}
use Rattle.mtl_encode.specs.Variables.{AreMoved, ArePlaces, IsOrder}

-- the numbers below a number
range-at : (n i d : ℕ) → i < n → slice_index_or (range_with_len 0 n) i d ≡ i
range-at n i d low = get_or-range_with_len 0 n i d low ∙ omega arith

range-apart : (n : ℕ) → AllPairs (λ v w. v ≢ w) (range_with_len 0 n)
range-apart n i j d less low same =
    let below : j < n = omega (arith, low, length-range_with_len 0 n) in
    let one : i ≡ j = sym (range-at n i d (omega (arith, below, less))) ∙ same ∙ range-at n j d below in
    omega (arith, one, less)

range-below : (n : ℕ) → All (λ v. v < n) (range_with_len 0 n)
range-below n i d low =
    let below : i < n = omega (arith, low, length-range_with_len 0 n) in
    subst (λ (v : ℕ). v < n) (sym (range-at n i d below)) below

eq-flips : (x y : ℕ) → (x == y) ≡ (y == x)
eq-flips x y = grind arith

pub order-of : (n : ℕ) (order : List ℕ) → IsPermutation (range_with_len 0 n) order → IsOrder n order
order-of n order is = record {
  count = length_permutation (range_with_len 0 n) order is ∙ length-range_with_len 0 n;
  below = All-permutation (λ v. v < n) (range_with_len 0 n) order is (range-below n);
  apart =
      AllPairs-from_IsDistinct Decides-eqb order
      (IsDistinct-IsPermutation (λ x y. x == y) eq-flips (range_with_len 0 n) order is (IsDistinct-from_AllPairs Decides-eqb (range_with_len 0 n) (range-apart n)));
  every = λ v low. Contains-permutation (range_with_len 0 n) order v is (v, omega (arith, low, length-range_with_len 0 n), range-at n v v low);
}

-- atoms that are taken in an order have moved to the places in it
pub taken-moved : (old new : List Atom) (order places : List ℕ) → IsOrder (length old) order → ArePlaces order places → AreTaken old order new → AreMoved old new places
taken-moved old new order places is at taken = record {
  count = at.count ∙ is.count;
  each = λ v a there.
      let (k, low, stands) = is.every v (slice_get_within old v a there) in
      let here : slice_get order k ≡ Some v = slice_get-get_or order k v low ∙ ap Some stands in
      let place : slice_index places v ≡ k = ap (slice_index places) (sym (get_or_from_slice_get order k v 0 here)) ∙ at.each k low in
      rw place (taken.each k v here ∙ there);
}

-- all of them are among the old ones
pub taken-only : (old new : List Atom) (order : List ℕ) → IsOrder (length old) order → AreTaken old order new → All (Contains old) new
taken-only old new order is taken k d low =
    let below : k < length order = omega (arith, low, taken.count) in
    let v = slice_index order k in
    let within : v < length old = is.below k 0 below in
    let at : slice_get new k ≡ Some (slice_index_or old v (First 0)) = taken.each k v (slice_get-get_or order k 0 below) ∙ slice_get-get_or old v (First 0) within in
    (v, within, get_or_default old v (slice_index_or new k d) (First 0) within ∙ sym (get_or_from_slice_get new k (slice_index_or old v (First 0)) d at))
