-- Clauses of two to five parts: the last part is true where the others are false.
use Rattle.std.proofs.Common.{◌≡◌, refl, Bool, true, false, ◌&&◌, ◌||◌, List, [], ◌∷◌}
use Rattle.std.specs.List.{list_all}
use Rattle.std.proofs.lemmas.Bool.{cases_Bool}
use Rattle.mt_model.proofs.Members.{Among}
use Rattle.std.proofs.Common.{inl, inr}

pub any_1 : (a : Bool) → a ≡ true → (a || false) ≡ true
any_1 a h = rw h refl

pub any_rest : (a b : Bool) → (a ≡ false → b ≡ true) → (a || b) ≡ true
any_rest true b h = refl
any_rest false b h = h refl

pub any_2 : (a b : Bool) → (a ≡ false → b ≡ true) → (a || (b || false)) ≡ true
any_2 a b h = any_rest a (b || false) (λ x. any_1 b (h x))

pub any_3 : (a b c : Bool) → (a ≡ false → b ≡ false → c ≡ true) → (a || (b || (c || false))) ≡ true
any_3 a b c h = any_rest a _ (λ x. any_2 b c (h x))

pub any_4 : (a b c d : Bool) → (a ≡ false → b ≡ false → c ≡ false → d ≡ true) → (a || (b || (c || (d || false)))) ≡ true
any_4 a b c d h = any_rest a _ (λ x. any_3 b c d (h x))

pub any_5 : (a b c d e : Bool) → (a ≡ false → b ≡ false → c ≡ false → d ≡ false → e ≡ true) → (a || (b || (c || (d || (e || false))))) ≡ true
any_5 a b c d e h = any_rest a _ (λ x. any_4 b c d e (h x))

pub from_3 : (a b c : Bool) → a ≡ true → b ≡ true → c ≡ true → (a && b && c) ≡ true
from_3 a b c p q r = rw (p, q, r) refl

-- where a test fails on a list, it fails at an element
pub failing : {X : Type 0} (p : X → Bool) (xs : List X) → list_all p xs ≡ false → (x : X) × Among xs x × (p x ≡ false)
failing p [] h = absurd (cc)
failing p (x ∷ xs) h = elim (cases_Bool (p x)) [
  | inl is ↦ let (y, in_, fails) = failing p xs (rw is at h) in (y, inr in_, fails)
  | inr is ↦ (x, inl refl, is)
]

-- a truth value is not both
pub apart : (a : Bool) → a ≡ true → a ≡ false → ⊥
apart true h fails = absurd (cc)
apart false h fails = absurd (cc)
