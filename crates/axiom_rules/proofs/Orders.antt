-- A frame whose points are in order, and the first point that passes a test.
use Rattle.std.proofs.Common.{◌≡◌, refl, Bool, true, false, List, [], ◌∷◌, ◌⊎◌, inl, inr, ℤ, arith}
use Rattle.std.proofs.lemmas.Bool.{cases_Bool}
use Rattle.std.proofs.lemmas.Int.{ints}
use Rattle.mt_model.specs.Frame.{Frame, turned}
use Rattle.mt_model.specs.Truth.{rows_in}
use Rattle.mt_model.proofs.Members.{Among}
use Rattle.formula_arena.specs.Directions.{met}
use Rattle.formula_arena.specs.declared.direction.Direction.{Direction}
use Rattle.formula_arena.specs.declared.direction.Direction.TheVariants.{Ahead, Behind}

-- of two points one is not after the other, and that goes along
pub record IsOrder {X : Type 0} (F : Frame X) : Type 0 where
  pub total : (x y : X) → F.not_after x y ≡ false → F.not_after y x ≡ true
  pub along : (x y z : X) → F.not_after x y ≡ true → F.not_after y z ≡ true → F.not_after x z ≡ true

pub order-turned : {X : Type 0} (F : Frame X) → IsOrder F → IsOrder (turned F)
order-turned F o = record { total = λ x y h. o.total y x h; along = λ x y z a b. o.along z y x b a }

pub order-rows : (t : List ℤ) → IsOrder (rows_in t)
order-rows t = record {
  total = λ x y h. grind (arith, ints);
  along = λ x y z a b. grind (arith, ints);
}

pub order-met : (direction : Direction) (t : List ℤ) → IsOrder (met direction (rows_in t))
order-met Ahead t = order-rows t
order-met Behind t = order-turned (rows_in t) (order-rows t)

module _ {X : Type 0} (F : Frame X) (o : IsOrder F) (p : X → Bool) where
  itself : (x : X) → F.not_after x x ≡ true
  itself x = elim (cases_Bool (F.not_after x x)) [ inl is ↦ is | inr fails ↦ o.total x x fails ]

  -- y is among xs, passes, and is not after any that passes
  pub record IsFirst (xs : List X) (y : X) : Type 0 where
    pub among : Among xs y
    pub passing : p y ≡ true
    pub first : (z : X) → Among xs z → p z ≡ true → F.not_after y z ≡ true

  none_or_first : (xs : List X) → ((z : X) → Among xs z → p z ≡ false) ⊎ ((y : X) × IsFirst xs y)
  none_or_first [] = inl (λ z in_. absurd in_)
  none_or_first (x ∷ xs) = step (cases_Bool (p x)) (none_or_first xs)
    where
      step : (p x ≡ true) ⊎ (p x ≡ false) → ((z : X) → Among xs z → p z ≡ false) ⊎ ((y : X) × IsFirst xs y) → ((z : X) → Among (x ∷ xs) z → p z ≡ false) ⊎ ((y : X) × IsFirst (x ∷ xs) y)
      step (inl is) (inl none) = inr (x, record { among = inl refl; passing = is; first = λ z in_ ok. elim in_ [ inl same ↦ rw (← same) (itself x) | inr later ↦ absurd (cc (none z later)) ] })
      step (inl is) (inr (y, l)) = elim (cases_Bool (F.not_after x y)) [
        | inl first ↦ inr (x, record { among = inl refl; passing = is; first = λ z in_ ok. elim in_ [ inl same ↦ rw (← same) (itself x) | inr later ↦ o.along x y z first (l.first z later ok) ] })
        | inr after ↦ inr (y, record { among = inr l.among; passing = l.passing; first = λ z in_ ok. elim in_ [ inl same ↦ rw (← same) (o.total x y after) | inr later ↦ l.first z later ok ] })
      ]
      step (inr fails) (inl none) = inl (λ z in_. elim in_ [ inl same ↦ rw (← same) fails | inr later ↦ none z later ])
      step (inr fails) (inr (y, l)) =
          inr
          (y, record { among = inr l.among; passing = l.passing; first = λ z in_ ok. elim in_ [ inl same ↦ let no : p z ≡ false = rw (← same) fails in absurd (cc) | inr later ↦ l.first z later ok ] })

  pub first_of : (xs : List X) (x : X) → Among xs x → p x ≡ true → (y : X) × IsFirst xs y
  first_of xs x in_ ok = elim (none_or_first xs) [
    | inl none ↦ absurd (cc (none x in_))
    | inr found ↦ found
  ]
