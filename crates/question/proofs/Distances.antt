-- Distances within limits.
use Rattle.std.proofs.Common.{◌≡◌, refl, ℕ, true, Option, Some, None, ℤ, pos, ◌≤ℤ◌, arith}
use Rattle.std.specs.Prelude.{int_le}
use Rattle.std.specs.Option.{option_map_or}
use Rattle.std.proofs.lemmas.Int.{ints}

pub le-more : (a b c : ℤ) → int_le a b ≡ true → b ≤ℤ c → int_le a c ≡ true
le-more a b c h less = grind (arith, ints)

pub le-less : (a b c : ℤ) → a ≤ℤ b → int_le b c ≡ true → int_le a c ≡ true
le-less a b c less h = grind (arith, ints)

pub high-all : (high : Option ℕ) (far d : ℤ) → d ≤ℤ far → option_map_or (λ b. int_le far (pos b)) high true ≡ true → option_map_or (λ b. int_le d (pos b)) high true ≡ true
high-all None far d less h = refl
high-all (Some b) far d less h = le-less d far (pos b) less h
