-- Items of a list that are changed in place, one after another.
use Rattle.std.proofs.Common.{◌≡◌, ◌∙◌, sym, ap, ℕ, zero, suc, ◌+◌, ◌<◌, List, [], ◌∷◌, ◌++◌, append_assoc, length, get_or, set, map, take, drop, refl, arith}
use Rattle.std.proofs.lemmas.List.{map_more}

module _ {X : Type 0} (f : X → X) where
  at-next : (old : List X) (i : ℕ) (d : X) → i < length old → get_or (map f (take i old) ++ drop i old) i d ≡ get_or old i d
  at-next [] i d less = let never : ⊥ = omega arith in absurd never
  at-next (x ∷ xs) zero d less = refl
  at-next (x ∷ xs) (suc i) d less = at-next xs i d (omega arith)

  set-next : (old : List X) (i : ℕ) (v : X) → i < length old → set (map f (take i old) ++ drop i old) i v ≡ map f (take i old) ++ v ∷ drop (suc i) old
  set-next [] i v less = let never : ⊥ = omega arith in absurd never
  set-next (x ∷ xs) zero v less = refl
  set-next (x ∷ xs) (suc i) v less = ap (λ t. f x ∷ t) (set-next xs i v (omega arith))

  -- one more is changed
  pub changed-more : (old now : List X) (i : ℕ) (d v : X) → i < length old → now ≡ map f (take i old) ++ drop i old → v ≡ f (get_or now i d)
      → set now i v ≡ map f (take (i + 1) old) ++ drop (i + 1) old
  changed-more old now i d v less is new =
      let one : suc i ≡ i + 1 = omega arith in
      let value : v ≡ f (get_or old i d) = new ∙ ap f (ap (λ t. get_or t i d) is ∙ at-next old i d less) in
      let rest = drop (i + 1) old in
      ap (λ t. set t i v) is ∙ set-next old i v less ∙ ap (λ n. map f (take i old) ++ v ∷ drop n old) one ∙ ap (λ w. map f (take i old) ++ w ∷ rest) value
      ∙ sym (append_assoc (map f (take i old)) (f (get_or old i d) ∷ []) rest) ∙ ap (λ t. t ++ rest) (sym (map_more f old i d less))
