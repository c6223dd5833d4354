-- The stored edges, as those of a variable are set.
use Rattle.std.proofs.Common.{◌≡◌, ◌≢◌, ◌∙◌, ap, sym, refl, ℕ, zero, suc, ◌+◌, ◌<◌, ◌≤◌, inl, inr, List, [], ◌∷◌, ◌++◌, length, map, set, get_or, arith, Option, Some, None, cond, get_or-set_same, get_or-set_other, length-set}
use Rattle.std.specs.Prelude.{replicate}
use Rattle.std.specs.List.{count_by, slice_get}
use Rattle.std.proofs.lemmas.Bool.{cases_eq}
use Rattle.std.proofs.lemmas.List.{ext_get_or, get_or-map, length-map, length_push, map-set}
use Rattle.std.proofs.lemmas.List.Sums.{sum_by-set}
use Rattle.neg_cycle.specs.declared.system.Edge.{Edge}
use Rattle.propagate.specs.LinkPlaces.{ArePlaces, is_free, pair_at}
use Rattle.std.proofs.lemmas.Option.{same_Some}

abbrev Pair : Type 0
Pair = Edge × Edge

-- what stands at a place of a list
pub read_get : (xs : List Pair) (k : ℕ) (r : Pair) → k < length xs → r ≡ get_or xs k r → slice_get xs k ≡ Some r
read_get [] k r within is = absurd (omega (arith, within))
read_get (x ∷ xs) zero r within is = ap (λ (y : Pair). Some y) (sym is)
read_get (x ∷ xs) (suc k) r within is = read_get xs k r (omega (arith, within)) is

get_push_left : (xs : List Pair) (y : Pair) (k : ℕ) → k < length xs → slice_get (xs ++ y ∷ []) k ≡ slice_get xs k
get_push_left [] y k within = absurd (omega (arith, within))
get_push_left (x ∷ xs) y zero within = refl
get_push_left (x ∷ xs) y (suc k) within = get_push_left xs y k (omega (arith, within))

get_push_last : (xs : List Pair) (y : Pair) → slice_get (xs ++ y ∷ []) (length xs) ≡ Some y
get_push_last [] y = refl
get_push_last (x ∷ xs) y = get_push_last xs y

get_set_same : (xs : List Pair) (k : ℕ) (y : Pair) → k < length xs → slice_get (set xs k y) k ≡ Some y
get_set_same [] k y within = absurd (omega (arith, within))
get_set_same (x ∷ xs) zero y within = refl
get_set_same (x ∷ xs) (suc k) y within = get_set_same xs k y (omega (arith, within))

get_set_other : (xs : List Pair) (k j : ℕ) (y : Pair) → j ≢ k → slice_get (set xs k y) j ≡ slice_get xs j
get_set_other [] k j y other = refl
get_set_other (x ∷ xs) zero zero y other = absurd (other refl)
get_set_other (x ∷ xs) zero (suc j) y other = refl
get_set_other (x ∷ xs) (suc k) zero y other = refl
get_set_other (x ∷ xs) (suc k) (suc j) y other = get_set_other xs k j y (λ same. other (ap (λ n. suc n) same))

pub view_below : (places : List (Option ℕ)) (edges : List Pair) (v : ℕ) → v < length (map (pair_at edges) places) → v < length places
view_below places edges v within = omega (arith, within, length-map places (pair_at edges))

-- the edges of a variable, as they are read
pub pair_read : (places : List (Option ℕ)) (edges : List Pair) (v k : ℕ) (r : Pair) → v < length places → get_or places v None ≡ Some k
    → k < length edges → r ≡ get_or edges k r → get_or (map (pair_at edges) places) v None ≡ Some r
pair_read places edges v k r within is less got = get_or-map (pair_at edges) places v None None within ∙ ap (pair_at edges) is ∙ read_get edges k r less got

-- no variable has edges at first
no_pairs : (n : ℕ) (edges : List Pair) → map (pair_at edges) (replicate n None) ≡ replicate n None
no_pairs zero edges = refl
no_pairs (suc n) edges = ap (λ xs. None ∷ xs) (no_pairs n edges)

pub no_pairs_of : (n : ℕ) (places : List (Option ℕ)) (edges : List Pair) → places ≡ replicate n None → map (pair_at edges) places ≡ replicate n None
no_pairs_of n places edges is = rw is (no_pairs n edges)

module _ (places : List (Option ℕ)) (edges : List Pair) (capacity v : ℕ) (within : v < length places) (y : Pair) where
  -- a variable that had no edges
  module _ (old : ArePlaces places (length edges) capacity) (none : get_or places v None ≡ None) where
    one_fewer : count_by is_free (set places v (Some (length edges))) + 1 ≡ count_by is_free places
    one_fewer =
        let both = rw none at (sum_by-set (λ x. cond (is_free x) 1 0) places v (Some (length edges)) None within) in
        omega (arith, both)

    pub more_places : (more : ℕ) → capacity ≤ more → ArePlaces (set places v (Some (length edges))) (length (edges ++ y ∷ [])) more
    more_places more larger = record {
      below = λ w k is. elim (cases_eq w v) [
        | inl same ↦ let this = same_Some _ _ (sym (get_or-set_same places v (Some (length edges)) None within) ∙ ap (λ (u : ℕ). get_or (set places v (Some (length edges))) u None) (sym same) ∙ is) in omega (arith, this, length_push edges y)
        | inr other ↦ let less = old.below w k (sym (get_or-set_other places v w (Some (length edges)) None other) ∙ is) in omega (arith, less, length_push edges y)
      ];
      apart = λ w u k is also. elim (cases_eq w v) [
        | inl same ↦
            let this = same_Some _ _ (sym (get_or-set_same places v (Some (length edges)) None within) ∙ ap (λ (i : ℕ). get_or (set places v (Some (length edges))) i None) (sym same) ∙ is) in
            elim (cases_eq u v) [
              | inl again ↦ same ∙ sym again
              | inr other ↦ let less = old.below u k (sym (get_or-set_other places v u (Some (length edges)) None other) ∙ also) in absurd (omega (arith, less, this))
            ]
        | inr other ↦
            let was = sym (get_or-set_other places v w (Some (length edges)) None other) ∙ is in
            elim (cases_eq u v) [
              | inl again ↦
                  let this = same_Some _ _ (sym (get_or-set_same places v (Some (length edges)) None within) ∙ ap (λ (i : ℕ). get_or (set places v (Some (length edges))) i None) (sym again) ∙ also) in
                  let less = old.below w k was in
                  absurd (omega (arith, less, this))
              | inr differ ↦ old.apart w u k was (sym (get_or-set_other places v u (Some (length edges)) None differ) ∙ also)
            ]
      ];
      all = let fewer = one_fewer in let all = old.all in omega (arith, fewer, all, length_push edges y, length-set places v (Some (length edges)));
      few = let few = old.few in omega (arith, few, length-set places v (Some (length edges)));
      room = let room = old.room in omega (arith, room, larger, length-set places v (Some (length edges)));
    }

    same_pair : (w : ℕ) (r : Option ℕ) → get_or places w None ≡ r → pair_at (edges ++ y ∷ []) r ≡ pair_at edges r
    same_pair w None is = refl
    same_pair w (Some k) is = get_push_left edges y k (old.below w k is)

    pub more_view : map (pair_at (edges ++ y ∷ [])) (set places v (Some (length edges))) ≡ set (map (pair_at edges) places) v (Some y)
    more_view =
        map-set (pair_at (edges ++ y ∷ [])) places v (Some (length edges)) ∙ ap (λ r. set (map (pair_at (edges ++ y ∷ [])) places) v r) (get_push_last edges y) ∙
        ap (λ (xs : List (Option Pair)). set xs v (Some y)) (ext_get_or None (map (pair_at (edges ++ y ∷ [])) places) (map (pair_at edges) places) (length-map places (pair_at (edges ++ y ∷ [])) ∙ sym (length-map places (pair_at edges))) (λ w w_in.
        let inside : w < length places = omega (arith, w_in, length-map places (pair_at (edges ++ y ∷ []))) in
        get_or-map (pair_at (edges ++ y ∷ [])) places w None None inside ∙ same_pair w (get_or places w None) refl ∙ sym (get_or-map (pair_at edges) places w None None inside)))

  -- a variable that had edges
  module _ (old : ArePlaces places (length edges) capacity) (k : ℕ) (is : get_or places v None ≡ Some k) where
    other_pair : (w : ℕ) (r : Option ℕ) → w ≢ v → get_or places w None ≡ r → pair_at (set edges k y) r ≡ pair_at edges r
    other_pair w None other at = refl
    other_pair w (Some j) other at = get_set_other edges k j y (λ same. other (old.apart w v j at (is ∙ ap (λ (n : ℕ). Some n) (sym same))))

    pub again_view : map (pair_at (set edges k y)) places ≡ set (map (pair_at edges) places) v (Some y)
    again_view = ext_get_or None (map (pair_at (set edges k y)) places) (set (map (pair_at edges) places) v (Some y)) (length-map places (pair_at (set edges k y)) ∙ sym (length-set (map (pair_at edges) places) v (Some y) ∙ length-map places (pair_at edges))) (λ w w_in.
        let inside : w < length places = omega (arith, w_in, length-map places (pair_at (set edges k y))) in
        let here : v < length (map (pair_at edges) places) = omega (arith, within, length-map places (pair_at edges)) in
        elim (cases_eq w v) [
          | inl same ↦ rw (same, get_or-set_same (map (pair_at edges) places) v (Some y) None here)
              (get_or-map (pair_at (set edges k y)) places v None None within ∙ ap (pair_at (set edges k y)) is
              ∙ get_set_same edges k y (old.below v k is))
          | inr other ↦ rw (get_or-set_other (map (pair_at edges) places) v w (Some y) None other)
              (get_or-map (pair_at (set edges k y)) places w None None inside ∙ other_pair w (get_or places w None) other refl
              ∙ sym (get_or-map (pair_at edges) places w None None inside))
        ])
