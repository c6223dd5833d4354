-- Lists over a range of numbers, one number more at a time.
use Rattle.std.proofs.Common.{◌≡◌, ◌∙◌, sym, ap, ℕ, zero, suc, ◌+◌, List, ◌++◌, append_assoc, add-one, arith}
use Rattle.std.specs.List.{flat_map, range_with_len}
use Rattle.std.proofs.lemmas.List.{append-nil}

flat_map-range-from : {X : Type 0} (f : ℕ → List X) (a n j : ℕ) → a + n ≡ j → flat_map f (range_with_len a (suc n)) ≡ flat_map f (range_with_len a n) ++ f j
flat_map-range-from f a zero j at = append-nil (f a) ∙ ap f (omega arith)
flat_map-range-from f a (suc n) j at = ap (λ xs. f a ++ xs) (flat_map-range-from f (a + 1) n j (omega arith)) ∙ sym (append_assoc (f a) (flat_map f (range_with_len (a + 1) n)) (f j))

pub flat_map-range : {X : Type 0} (f : ℕ → List X) (n : ℕ) → flat_map f (range_with_len 0 (n + 1)) ≡ flat_map f (range_with_len 0 n) ++ f n
flat_map-range f n = rw add-one (flat_map-range-from f 0 n n (omega arith))
