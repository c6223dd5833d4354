-- What stands in a list, and what holds of some and of each of its elements.
use Rattle.std.proofs.Common.{◌≡◌, ◌∙◌, sym, refl, Bool, true, List, [], ◌∷◌, ◌⊎◌, inl, inr}
use Rattle.std.specs.List.{list_any, list_all}
use Rattle.std.proofs.lemmas.Bool.{or_cases, or_left, or_right, and_parts, and_from}
use Rattle.std.specs.Cmp.{both_ways}

abbrev pub Among : {X : Type 0} → List X → X → Type 0
Among [] x = ⊥
Among (y ∷ ys) x = (y ≡ x) ⊎ Among ys x

module _ {X : Type 0} (p : X → Bool) where
  pub any_some : (xs : List X) → list_any p xs ≡ true → (x : X) × Among xs x × (p x ≡ true)
  any_some [] h = absurd (cc)
  any_some (y ∷ ys) h = elim (or_cases (p y) (list_any p ys) h) [
    | inl here ↦ (y, inl refl, here)
    | inr later ↦ let (x, in_, is) = any_some ys later in (x, inr in_, is)
  ]

  pub some_any : (xs : List X) (x : X) → Among xs x → p x ≡ true → list_any p xs ≡ true
  some_any [] x in_ is = absurd in_
  some_any (y ∷ ys) x in_ is = elim in_ [
    | inl same ↦ or_left (p y) (list_any p ys) (rw same is)
    | inr later ↦ or_right (p y) (list_any p ys) (some_any ys x later is)
  ]

  pub all_each : (xs : List X) (x : X) → list_all p xs ≡ true → Among xs x → p x ≡ true
  all_each [] x h in_ = absurd in_
  all_each (y ∷ ys) x h in_ = elim in_ [
    | inl same ↦ rw (← same) ((and_parts (p y) (list_all p ys) h).0)
    | inr later ↦ all_each ys x ((and_parts (p y) (list_all p ys) h).1) later
  ]

  pub each_all : (xs : List X) → ((x : X) → Among xs x → p x ≡ true) → list_all p xs ≡ true
  each_all [] h = refl
  each_all (y ∷ ys) h = and_from (p y) (list_all p ys) (h y (inl refl)) (each_all ys (λ x in_. h x (inr in_)))

-- a test and a list, carried to another list
module _ {X Y : Type 0} (xs : List X) (ys : List Y) (φ : X → Y) (into : (x : X) → Among xs x → Among ys (φ x)) (onto : (y : Y) → Among ys y → (x : X) × Among xs x × (φ x ≡ y)) (p : X → Bool) (q : Y → Bool)
    (same : (x : X) → Among xs x → p x ≡ q (φ x)) where
  any_to : list_any p xs ≡ true → list_any q ys ≡ true
  any_to h = let (x, in_, is) = any_some p xs h in some_any q ys (φ x) (into x in_) (sym (same x in_) ∙ is)

  any_from : list_any q ys ≡ true → list_any p xs ≡ true
  any_from h =
      let (y, in_, is) = any_some q ys h in
      let (x, at, to) = onto y in_ in
      some_any p xs x at (same x at ∙ (rw to is))

  pub any_same : list_any p xs ≡ list_any q ys
  any_same = both_ways _ _ any_to any_from

  all_to : list_all p xs ≡ true → list_all q ys ≡ true
  all_to h = each_all q ys (λ y in_. back y (onto y in_))
    where
      back : (y : Y) → (x : X) × Among xs x × (φ x ≡ y) → q y ≡ true
      back y (x, at, to) = rw (← to) (sym (same x at) ∙ all_each p xs x h at)

  all_from : list_all q ys ≡ true → list_all p xs ≡ true
  all_from h = each_all p xs (λ x in_. same x in_ ∙ all_each q ys (φ x) h (into x in_))

  pub all_same : list_all p xs ≡ list_all q ys
  all_same = both_ways _ _ all_to all_from
