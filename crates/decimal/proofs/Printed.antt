-- What is printed of a number is read as that number.
use Rattle.std.proofs.Common.{◌≡◌, ◌∙◌, ap, refl, arith, ℕ, zero, suc, ◌^◌, ◌/◌, ◌%◌, ◌+◌, ◌<◌, ◌≤◌, true, false, List, [], ◌∷◌, ◌++◌, length, get_or, Some, ℤ, pos, negsuc, ◌+ℤ◌, ◌≤ℤ◌, ◌==◌}
use Rattle.std.specs.Prelude.{int_le, nat_lt, option_and_then}
use Rattle.std.specs.Ordering.{int_eq}
use Rattle.std.specs.Char.{is_ascii_digit}
use Rattle.std.specs.Fmt.{decimal, signed_decimal}
use Rattle.std.specs.List.{list_all}
use Rattle.std.specs.Str.Parse.{digits_value}
use Rattle.std.proofs.lemmas.Bool.Decides.{nat_tests}
use Rattle.std.proofs.lemmas.Fmt.{decimal_by_steps_wide, decimal_digit, decimal_is_IsNumeral_wide}
use Rattle.std.proofs.lemmas.Int.{ints}
use Rattle.decimal.specs.Numbers.{is_number, negated, number_below, number_up_to, signed_up_to}
use Rattle.decimal.proofs.Digits.{digits_model}

-- what is printed begins with no 0, unless it is 0
record BeginsWell (n : ℕ) (ds : List ℕ) : Type 0 where
  some : 0 < length ds
  first : 0 < n → 48 < get_or ds 0 0

begins-more : (n : ℕ) (ds : List ℕ) (d : ℕ) → 10 ≤ n → BeginsWell (n / 10) ds → BeginsWell n (ds ++ d ∷ [])
begins-more n [] d large begun = absurd (omega (arith, begun.some))
begins-more n (b ∷ bs) d large begun = record { some = omega arith; first = λ positive. begun.first (omega arith) }

begins : (n : ℕ) → n < 10 ^ 64 → BeginsWell n (decimal n)
begins n small = decimal_by_steps_wide BeginsWell (λ m digit. record { some = omega arith; first = λ positive. omega arith }) (λ m ds large begun. begins-more m ds (48 + m % 10) large begun) n small

-- what is printed is digits
pub digits-printed : (n : ℕ) → n < 10 ^ 64 → list_all is_ascii_digit (decimal n) ≡ true
digits-printed n small = digits_model.from (decimal n) (decimal_is_IsNumeral_wide n small).0.1

form-first : (ds : List ℕ) → list_all is_ascii_digit ds ≡ true → 0 < length ds → 48 < get_or ds 0 0 → is_number ds ≡ true
form-first [] digits some first = absurd (omega arith)
form-first (b ∷ []) digits some first = grind (arith, nat_tests)
form-first (b ∷ c ∷ bs) digits some first =
    let other : (b == 48) ≡ false = grind (arith, nat_tests) in
    rw (other, digits) refl

form-printed : (n : ℕ) → n < 10 ^ 64 → is_number (decimal n) ≡ true
form-printed zero small = rw (decimal_digit 0 (omega arith)) refl
form-printed (suc n) small =
    let begun = begins (suc n) small in
    form-first (decimal (suc n)) (digits-printed (suc n) small) begun.some (begun.first (omega arith))

value-printed : (n : ℕ) → n < 10 ^ 64 → digits_value 10 (decimal n) ≡ n
value-printed n small = (decimal_is_IsNumeral_wide n small).1

-- a number below a limit
pub number-below-printed : (limit n : ℕ) → limit ≤ 10 ^ 64 → n < limit → number_below limit (decimal n) ≡ Some n
number-below-printed limit n wide below =
    let test : nat_lt n limit ≡ true = grind (arith, nat_tests) in
    rw (value-printed n (omega arith), form-printed n (omega arith), test) refl

magnitude-printed : (most : ℤ) (n : ℕ) → n < 10 ^ 64 → pos n ≤ℤ most → number_up_to most (decimal n) ≡ Some (pos n)
magnitude-printed most n small within =
    let test : int_le (pos n) most ≡ true = grind (arith, ints) in
    rw (value-printed n small, form-printed n small, test) refl

-- a number that is at least 0
pub number-printed : (most z : ℤ) → most ≤ℤ pos (10 ^ 63) → pos 0 ≤ℤ z → z ≤ℤ most → number_up_to most (signed_decimal z) ≡ Some z
number-printed most (pos n) limit low high = magnitude-printed most n (omega (arith, ints)) high
number-printed most (negsuc n) limit low high = absurd (omega (arith, ints))

-- digits begin with no minus
unsigned : (most : ℤ) (ds : List ℕ) → list_all is_ascii_digit ds ≡ true → 0 < length ds → signed_up_to most ds ≡ number_up_to most ds
unsigned most [] digits some = absurd (omega arith)
unsigned most (b ∷ bs) digits some =
    let plain : (b == 45) ≡ false = grind (arith, nat_tests) in
    rw plain refl

-- the digits after a minus
pub negated-is : (n : ℕ) → negated (pos (suc n)) ≡ Some (negsuc n)
negated-is n =
    let test : int_eq (pos (suc n)) (pos 0) ≡ false = grind (arith, nat_tests) in
    rw test refl

-- a number of either sign
pub signed-printed : (most z : ℤ) → most ≤ℤ pos (10 ^ 63) → pos 0 ≤ℤ (z +ℤ most) → z ≤ℤ most → signed_up_to most (signed_decimal z) ≡ Some z
signed-printed most (pos n) limit low high =
    let small : n < 10 ^ 64 = omega (arith, ints) in
    unsigned most (decimal n) (digits-printed n small) (begins n small).some ∙ magnitude-printed most n small high
signed-printed most (negsuc n) limit low high =
    ap (option_and_then negated) (magnitude-printed most (suc n) (omega (arith, ints)) (omega (arith, ints))) ∙ negated-is n
