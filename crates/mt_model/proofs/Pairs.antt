-- A fact on each pair of a list's elements, element by element.
use Rattle.std.proofs.Common.{◌≡◌, ◌∙◌, sym, ℕ, ◌+◌, ◌-◌, ◌<◌, inl, inr, List, length, drop, get_or, arith}
use Rattle.std.specs.Prelude.{Any, AllPairs}
use Rattle.std.proofs.lemmas.Bool.{cases_eq}
use Rattle.std.proofs.lemmas.List.{get_or_default}
use Rattle.std.proofs.Common.{get_or-drop}
use Rattle.std.proofs.lemmas.Grind.{common_steps}

module _ {X : Type 0} (R : X → X → Type 0) (xs : List X) where
  -- the pairs whose first element stands before i
  abbrev pub PairsBelow : ℕ → Type 0
  PairsBelow i = (j k : ℕ) (d : X) → j < i → j < k → k < length xs → R (get_or xs j d) (get_or xs k d) → ⊥

  -- an element that goes with a later one
  pub pair_found : (i : ℕ) (x : X) → i < length xs → x ≡ get_or xs i x → Any (λ y. R x y) (drop (i + 1) xs) → AllPairs (λ q r. R q r → ⊥) xs → ⊥
  pair_found i x below is (k, y, within, at, bad) all =
      let first : get_or xs i y ≡ x = get_or_default xs i y x below ∙ sym is in
      let second : get_or xs (i + 1 + k) y ≡ y = sym (get_or-drop (i + 1) xs k y) ∙ at in
      all i (i + 1 + k) y (omega arith) (grind (arith, common_steps)) (rw (first, second) bad)

  pub pairs_more : (i : ℕ) (x : X) → i < length xs → x ≡ get_or xs i x → PairsBelow i → (Any (λ y. R x y) (drop (i + 1) xs) → ⊥) → PairsBelow (i + 1)
  pairs_more i x below is before none j k d low order within bad = elim (cases_eq j i) [
    | inl same ↦
        let y = get_or xs k d in
        let first : get_or xs j d ≡ x = rw same (get_or_default xs i d x below ∙ sym is) in
        let place : i + 1 + (k - (i + 1)) ≡ k = omega arith in
        let second : get_or (drop (i + 1) xs) (k - (i + 1)) y ≡ y = get_or-drop (i + 1) xs (k - (i + 1)) y ∙ rw place (get_or_default xs k y d within) in
        none (k - (i + 1), y, grind (arith, common_steps), second, rw first at bad)
    | inr other ↦ before j k d (omega arith) order within bad
  ]
