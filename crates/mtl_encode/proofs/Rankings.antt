-- The variables of a table, some of them orders.
use Rattle.std.proofs.Common.{◌≡◌, ◌∙◌, sym, ap, subst, ℕ, ◌+◌, ◌<◌, List, [], ◌∷◌, ◌++◌, length, map, take, arith}
use Rattle.std.specs.Prelude.{slice_index_or}
use Rattle.std.specs.List.{range_with_len}
use Rattle.std.specs.List.Sorted.{IsPermutation}
use Rattle.std.proofs.lemmas.List.{append_assoc, map-append, take_more}
use Rattle.std.proofs.lemmas.List.Sorted.{IsPermutation-append_left, IsPermutation-append_right, IsPermutation-refl, IsPermutation-to_front, IsPermutation-trans}
use Rattle.mt_list.proofs.Lists.{range_more}

-- one number more at the end of the first list, or of the second one
at-first : (a b : List ℕ) (v : ℕ) → IsPermutation ((a ++ b) ++ v ∷ []) ((a ++ v ∷ []) ++ b)
at-first a b v =
    subst (λ xs. IsPermutation xs ((a ++ v ∷ []) ++ b)) (sym (append_assoc a b (v ∷ [])))
    (subst (λ ys. IsPermutation (a ++ (b ++ v ∷ [])) ys) (sym (append_assoc a (v ∷ []) b)) (IsPermutation-append_right a (b ++ v ∷ []) (v ∷ b) (IsPermutation-to_front b v)))

at-second : (a b : List ℕ) (v : ℕ) → IsPermutation ((a ++ b) ++ v ∷ []) (a ++ (b ++ v ∷ []))
at-second a b v = subst (IsPermutation ((a ++ b) ++ v ∷ [])) (append_assoc a b (v ∷ [])) (IsPermutation-refl ((a ++ b) ++ v ∷ []))

module _ {X : Type 0} (f : X → ℕ) where
  pub first-more : (xs : List X) (b : List ℕ) (x : X) → IsPermutation ((map f xs ++ b) ++ f x ∷ []) (map f (xs ++ x ∷ []) ++ b)
  first-more xs b x = subst (λ a. IsPermutation ((map f xs ++ b) ++ f x ∷ []) (a ++ b)) (sym (map-append f xs (x ∷ []))) (at-first (map f xs) b (f x))

  pub second-more : (a : List ℕ) (xs : List X) (x : X) → IsPermutation ((a ++ map f xs) ++ f x ∷ []) (a ++ map f (xs ++ x ∷ []))
  second-more a xs x = subst (λ b. IsPermutation ((a ++ map f xs) ++ f x ∷ []) (a ++ b)) (sym (map-append f xs (x ∷ []))) (at-second a (map f xs) (f x))

  -- a loop that adds the numbers of a list
  pub pushed-more : (old : List ℕ) (xs : List X) (i : ℕ) (d : X) → i < length xs → (old ++ map f (take i xs)) ++ f (slice_index_or xs i d) ∷ [] ≡ old ++ map f (take (i + 1) xs)
  pushed-more old xs i d low =
      append_assoc old (map f (take i xs)) (f (slice_index_or xs i d) ∷ []) ∙ ap (λ l. old ++ l) (sym (ap (map f) (take_more xs i d low) ∙ map-append f (take i xs) (slice_index_or xs i d ∷ [])))

-- the numbers below one more
pub range-next : (v : ℕ) → range_with_len 0 (v + 1) ≡ range_with_len 0 v ++ v ∷ []
range-next v = let last : 0 + v ≡ v = omega arith in range_more 0 v ∙ ap (λ (j : ℕ). range_with_len 0 v ++ j ∷ []) last

-- with the next variable
pub range-more : (v : ℕ) (old new : List ℕ) → IsPermutation (range_with_len 0 v) old → IsPermutation (old ++ v ∷ []) new → IsPermutation (range_with_len 0 (v + 1)) new
range-more v old new before more =
    subst (λ xs. IsPermutation xs new) (sym (range-next v)) (IsPermutation-trans _ _ _ (IsPermutation-append_left (v ∷ []) (range_with_len 0 v) old before) more)
