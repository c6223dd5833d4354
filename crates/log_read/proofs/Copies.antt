-- Fields that are read one at a time, and all records of a text.
use Rattle.std.proofs.Common.{◌≡◌, ap, arith, ℕ, zero, suc, ◌<◌, List, [], ◌∷◌, ◌++◌, length, take, Some, None}
use Rattle.csv.specs.Records.{field_at}

-- one more field
pub take-field : (xs : List (List ℕ)) (i : ℕ) (f : List ℕ) → field_at xs i ≡ Some f → take (suc i) xs ≡ take i xs ++ f ∷ []
unfolding field_at
take-field [] i f h = cc
take-field (x ∷ xs) zero f h = ap (λ y. y ∷ []) (cc)
take-field (x ∷ xs) (suc i) f h = ap (λ ys. x ∷ ys) (take-field xs i f h)

-- there is a field at each place
pub field_at-within : (xs : List (List ℕ)) (i : ℕ) → i < length xs → field_at xs i ≡ None → ⊥
unfolding field_at
field_at-within [] i within h = omega arith
field_at-within (x ∷ xs) zero within h = cc
field_at-within (x ∷ xs) (suc i) within h = field_at-within xs i (omega arith) h
