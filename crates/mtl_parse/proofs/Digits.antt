-- Texts of digits, for the lemmas of std on what `parse` gives.
use Rattle.std.proofs.Common.{◌≡◌, ◌∙◌, ap, refl, ℕ, Bool, true, List, [], ◌∷◌, Result, Ok, Err, inl, inr}
use Rattle.std.specs.Prelude.{take_while}
use Rattle.std.specs.Char.{is_ascii_digit}
use Rattle.std.specs.List.{list_all}
use Rattle.std.specs.Option.{SomeIff}
use Rattle.std.specs.Result.{OkIff, result_ok}
use Rattle.std.proofs.lemmas.Bool.{cases_Bool}
use Rattle.std.proofs.lemmas.List.Sums.{take_while-cons}
use Rattle.mt_model.specs.Name.{is_digit}

pub ascii_digits : (ds : List ℕ) → list_all is_digit ds ≡ true → list_all is_ascii_digit ds ≡ true
ascii_digits ds h = h

-- the value of an `Ok`, where one of its two conditions holds already
pub SomeIff-result_ok : {E : Type 0} (A B : Type 0) (r : Result ℕ E) (v : ℕ) → OkIff r (A × B) v → A → SomeIff (result_ok r) B v
SomeIff-result_ok A B (Ok x) v h a = (h.0.1, h.1)
SomeIff-result_ok A B (Err e) v h a = λ b. h (a, b)

module _ {X : Type 0} (test : X → Bool) where
  -- each of a run passes
  pub run_passes : (xs : List X) → list_all test (take_while test xs) ≡ true
  run_passes [] = refl
  run_passes (x ∷ xs) = elim (cases_Bool (test x)) [
    | inl more ↦ ap (list_all test) (take_while-cons test x xs) ∙ rw more (rw more (run_passes xs))
    | inr ends ↦ ap (list_all test) (take_while-cons test x xs) ∙ rw ends refl
  ]
