-- The first place at which a test passes, in two lists one after the other.
use Rattle.std.proofs.Common.{◌≡◌, ℕ, ◌+◌, Bool, List, [], ◌∷◌, ◌++◌, length, Some, None, refl, arith, inl, inr}
use Rattle.std.proofs.lemmas.Bool.{cases_Bool}
use Rattle.std.specs.List.{position_from}

module _ {X : Type 0} (test : X → Bool) where
  pub position_from_none : (xs ys : List X) (i j : ℕ) → position_from test i xs ≡ None → j ≡ i + length xs → position_from test i (xs ++ ys) ≡ position_from test j ys
  position_from_none [] ys i j none is = let e : j ≡ i = omega arith in rw e refl
  position_from_none (x ∷ xs) ys i j none is = elim (cases_Bool (test x)) [
    | inl passes ↦ let found : Some i ≡ None = rw passes at none in absurd (cc)
    | inr fails ↦ let none' : position_from test (i + 1) xs ≡ None = rw fails at none in rw fails (position_from_none xs ys (i + 1) j none' (omega arith))
  ]

  pub position_from_some : (xs ys : List X) (i k : ℕ) → position_from test i xs ≡ Some k → position_from test i (xs ++ ys) ≡ Some k
  position_from_some [] ys i k some = absurd (cc)
  position_from_some (x ∷ xs) ys i k some = elim (cases_Bool (test x)) [
    | inl passes ↦ let here : Some i ≡ Some k = rw passes at some in rw passes here
    | inr fails ↦ let later : position_from test (i + 1) xs ≡ Some k = rw fails at some in rw fails (position_from_some xs ys (i + 1) k later)
  ]
