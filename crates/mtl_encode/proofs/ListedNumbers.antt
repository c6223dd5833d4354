-- Lists that go over some numbers.
use Rattle.std.proofs.Common.{◌≡◌, ◌∙◌, ap, refl, ℕ, zero, suc, ◌+◌, ◌<◌, ◌≤◌, Bool, false, List, [], ◌∷◌, ◌++◌, length, take, inl, inr, arith}
use Rattle.std.specs.Prelude.{filter, slice_index_or, sum_by}
use Rattle.std.specs.List.{flat_map}
use Rattle.std.proofs.lemmas.Bool.{cases_Bool}
use Rattle.std.proofs.lemmas.Grind.{flat_map-append}
use Rattle.std.proofs.lemmas.List.{append-nil, take_more}
use Rattle.std.proofs.lemmas.List.Sums.{sum_by-append}

module _ {X : Type 0} (f : ℕ → List X) where
  -- the numbers that fail a test may be left out where they have nothing
  pub flat-filtered : (p : ℕ → Bool) → ((x : ℕ) → p x ≡ false → f x ≡ []) → (xs : List ℕ) → flat_map f xs ≡ flat_map f (filter p xs)
  flat-filtered p none [] = refl
  flat-filtered p none (x ∷ xs) = elim (cases_Bool (p x)) [
    | inl is ↦ rw is (ap (λ rest. f x ++ rest) (flat-filtered p none xs))
    | inr fails ↦ rw (fails, none x fails) (flat-filtered p none xs)
  ]

  -- with the list of one number more
  pub flat-more : (xs : List ℕ) (i d : ℕ) → i < length xs → flat_map f (take (i + 1) xs) ≡ flat_map f (take i xs) ++ f (slice_index_or xs i d)
  flat-more xs i d low =
      ap (flat_map f) (take_more xs i d low) ∙ flat_map-append f (take i xs) (slice_index_or xs i d ∷ []) ∙ ap (λ rest. flat_map f (take i xs) ++ rest) (append-nil (f (slice_index_or xs i d)))

  -- the lists of the first numbers, and that of the next one, sum up to no more than those of all
  pub part-taken : (w : X → ℕ) (xs : List ℕ) (i d : ℕ) → i < length xs → sum_by w (flat_map f (take i xs)) + sum_by w (f (slice_index_or xs i d)) ≤ sum_by w (flat_map f xs)
  part-taken w [] i d low = absurd (omega arith)
  part-taken w (x ∷ xs) zero d low = let all = sum_by-append w (f x) (flat_map f xs) in omega (arith, all)
  part-taken w (x ∷ xs) (suc i) d low =
      let ih = part-taken w xs i d (omega (arith, low)) in
      let first = sum_by-append w (f x) (flat_map f (take i xs)) in
      let all = sum_by-append w (f x) (flat_map f xs) in
      omega (arith, ih, first, all)
