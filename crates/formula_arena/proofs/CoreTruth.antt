-- A formula and its core are true at the same points.
use Rattle.std.proofs.Common.{◌≡◌, ◌∙◌, refl, ap, Bool, true, false, not, ◌&&◌, ◌||◌, List, [], ◌∷◌, ℤ}
use Rattle.std.specs.List.{list_any, list_all}
use Rattle.mt_model.specs.Form.{Form, True, False, Prop, Not, And, Or, Implies, Until, Since, Eventually, Always, Once, Historically}
use Rattle.mt_model.specs.Log.{Logged}
use Rattle.mt_model.specs.Frame.{Frame, turned, implies, span, reaches, sometimes, always, is_ahead, is_behind}
use Rattle.mt_model.specs.Truth.{truth_in}
use Rattle.formula_arena.specs.Cores.{core_of}

not-neither : (a b : Bool) → not (not a && not b) ≡ (a || b)
not-neither true b = refl
not-neither false true = refl
not-neither false false = refl

not-broken : (a b : Bool) → not (a && not b) ≡ implies a b
not-broken true true = refl
not-broken true false = refl
not-broken false b = refl

implies-true : (a : Bool) → implies a true ≡ true
implies-true true = refl
implies-true false = refl

at_some : (a b c : Bool) → (a && ((b && c) && true)) ≡ ((a && b) && c)
at_some true true true = refl
at_some true true false = refl
at_some true false c = refl
at_some false b c = refl

at_each : (a b c : Bool) → not (a && ((b && not c) && true)) ≡ implies (a && b) c
at_each true true true = refl
at_each true true false = refl
at_each true false c = refl
at_each false b c = refl

module _ {X : Type 0} where
  any_by : (p q : X → Bool) (xs : List X) → ((x : X) → p x ≡ q x) → list_any p xs ≡ list_any q xs
  any_by p q xs e = λ i. list_any (λ x. e x i) xs

  not-any : (p q : X → Bool) (xs : List X) → ((x : X) → not (p x) ≡ q x) → not (list_any p xs) ≡ list_all q xs
  not-any p q [] e = refl
  not-any p q (x ∷ xs) e = not-or (p x) (list_any p xs) ∙ (λ i. e x i && not-any p q xs e i)
    where
      not-or : (a b : Bool) → not (a || b) ≡ (not a && not b)
      not-or true b = refl
      not-or false b = refl

  all-true : (p : X → Bool) (xs : List X) → ((x : X) → p x ≡ true) → list_all p xs ≡ true
  all-true p [] e = refl
  all-true p (x ∷ xs) e = λ i. e x i && all-true p xs e i

  module _ (F : Frame X) (near : X → X → Bool) (f : X → Bool) (x : X) where
    span-true : (y : X) → span F (λ z. true) x y ≡ true
    span-true y = all-true _ F.points (λ z. implies-true (F.not_after x z && not (F.not_after y z)))

    -- sometimes is until from where nothing is asked
    reaches-sometimes : reaches F near (λ y. true) f x ≡ sometimes F near f x
    reaches-sometimes = any_by _ _ F.points (λ y. ap (λ b. F.not_after x y && ((near x y && f y) && b)) (span-true y) ∙ at_some (F.not_after x y) (near x y) (f y))

    -- always is not sometimes not
    not-reaches : not (reaches F near (λ y. true) (λ y. not (f y)) x) ≡ always F near f x
    not-reaches = not-any _ _ F.points (λ y. ap (λ b. not (F.not_after x y && ((near x y && not (f y)) && b))) (span-true y) ∙ at_each (F.not_after x y) (near x y) (f y))

module _ (log : Logged) (t : List ℤ) {X : Type 0} (F : Frame X) where
  pub truth-core : (f : Form) (x : X) → truth_in log t F x (core_of f) ≡ truth_in log t F x f
  truth-core True x = refl
  truth-core False x = refl
  truth-core (Prop host name) x = refl
  truth-core (Not f) x = ap not (truth-core f x)
  truth-core (And f g) x = λ i. truth-core f x i && truth-core g x i
  truth-core (Or f g) x = not-neither _ _ ∙ (λ i. truth-core f x i || truth-core g x i)
  truth-core (Implies f g) x = not-broken _ _ ∙ (λ i. implies (truth-core f x i) (truth-core g x i))
  truth-core (Until I f g) x = λ i. reaches F (is_ahead F I) (λ y. truth-core f y i) (λ y. truth-core g y i) x
  truth-core (Since I f g) x = λ i. reaches (turned F) (is_behind F I) (λ y. truth-core f y i) (λ y. truth-core g y i) x
  truth-core (Eventually I f) x = reaches-sometimes F (is_ahead F I) (λ y. truth_in log t F y (core_of f)) x ∙ (λ i. sometimes F (is_ahead F I) (λ y. truth-core f y i) x)
  truth-core (Always I f) x = not-reaches F (is_ahead F I) (λ y. truth_in log t F y (core_of f)) x ∙ (λ i. always F (is_ahead F I) (λ y. truth-core f y i) x)
  truth-core (Once I f) x = reaches-sometimes (turned F) (is_behind F I) (λ y. truth_in log t F y (core_of f)) x ∙ (λ i. sometimes (turned F) (is_behind F I) (λ y. truth-core f y i) x)
  truth-core (Historically I f) x = not-reaches (turned F) (is_behind F I) (λ y. truth_in log t F y (core_of f)) x ∙ (λ i. always (turned F) (is_behind F I) (λ y. truth-core f y i) x)

-- a core is its own core
pub core-core : (f : Form) → core_of (core_of f) ≡ core_of f
core-core True = refl
core-core False = refl
core-core (Prop host name) = refl
core-core (Not f) = ap Not (core-core f)
core-core (And f g) = λ i. And (core-core f i) (core-core g i)
core-core (Or f g) = λ i. Not (And (Not (core-core f i)) (Not (core-core g i)))
core-core (Implies f g) = λ i. Not (And (core-core f i) (Not (core-core g i)))
core-core (Until I f g) = λ i. Until I (core-core f i) (core-core g i)
core-core (Since I f g) = λ i. Since I (core-core f i) (core-core g i)
core-core (Eventually I f) = ap (Until I True) (core-core f)
core-core (Always I f) = ap (λ g. Not (Until I True (Not g))) (core-core f)
core-core (Once I f) = ap (Since I True) (core-core f)
core-core (Historically I f) = ap (λ g. Not (Since I True (Not g))) (core-core f)
