-- What is written of a number is read as it, and what is read as a number is what is written of it.
use Rattle.std.specs.Prelude.{◌≡◌, ◌↔◌, ◌≤◌, ◌<◌, ◌^◌, ℕ, List, Some, ℤ, pos, ◌≤ℤ◌, ◌+ℤ◌}
use Rattle.std.specs.Fmt.{decimal, signed_decimal}
use Rattle.decimal.specs.Numbers.{number_below, signed_up_to}

-- the bytes are what is printed of a number below a limit
pub record WritesNumber (limit : ℕ) (bytes : List ℕ) (n : ℕ) : Type 0 where
  pub below : n < limit
  pub written : bytes ≡ decimal n

-- bytes write a number below a limit of at most 10^64 exactly where they are what is printed of it
abbrev pub NumbersAreDecimal : Type 0
NumbersAreDecimal = (limit : ℕ) (bytes : List ℕ) (n : ℕ) → limit ≤ 10 ^ 64 → (number_below limit bytes ≡ Some n) ↔ WritesNumber limit bytes n

-- the bytes are what is printed of a number of a magnitude at most a limit
pub record WritesSigned (most : ℤ) (bytes : List ℕ) (z : ℤ) : Type 0 where
  pub low : pos 0 ≤ℤ (z +ℤ most)
  pub high : z ≤ℤ most
  pub written : bytes ≡ signed_decimal z

-- bytes write a signed number up to a limit of at most 10^63 exactly where they are what is printed of it
abbrev pub SignedNumbersAreDecimal : Type 0
SignedNumbersAreDecimal = (most : ℤ) (bytes : List ℕ) (z : ℤ) → most ≤ℤ pos (10 ^ 63) → (signed_up_to most bytes ≡ Some z) ↔ WritesSigned most bytes z
