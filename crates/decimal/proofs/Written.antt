-- What is read as a number is what is printed of it.
use Rattle.std.proofs.Common.{◌≡◌, ◌∙◌, sym, ap, subst, refl, arith, ℕ, zero, suc, ◌^◌, ◌+◌, ◌*◌, ◌/◌, ◌%◌, ◌<◌, ◌≤◌, Bool, true, false, List, [], ◌∷◌, ◌++◌, append_assoc, Option, Some, None, ℤ, pos, ◌≤ℤ◌, ◌==◌}
use Rattle.std.specs.Prelude.{◌&&◌, not, int_le, nat_lt, IfSome, option_and_then, if◌then◌else◌}
use Rattle.std.specs.Char.{digit_value, is_ascii_digit}
use Rattle.std.specs.Fmt.{decimal}
use Rattle.std.specs.List.{list_all}
use Rattle.std.specs.Str.Parse.{AllDigits, digits_value, digits_value_after}
use Rattle.std.proofs.lemmas.Bool.Decides.{nat_tests}
use Rattle.std.proofs.lemmas.Fmt.{decimal_digit, decimal_step_wide}
use Rattle.std.proofs.lemmas.Int.{ints}
use Rattle.std.proofs.lemmas.List.{append-nil}
use Rattle.std.proofs.lemmas.Str.Parse.{digit_from_value}
use Rattle.std.proofs.lemmas.Str.{digit_value_digit}
use Rattle.decimal.specs.Numbers.{is_number, negated, number_below, number_up_to, signed_up_to}
use Rattle.decimal.specs.Laws.{NumbersAreDecimal, SignedNumbersAreDecimal, WritesNumber, WritesSigned}
use Rattle.decimal.proofs.Digits.{digits_model}
use Rattle.decimal.proofs.Printed.{negated-is, number-below-printed, signed-printed}
use Rattle.std.proofs.lemmas.Bool.{and_parts}

-- digits can only raise the number that they follow
raised : (n : ℕ) (ds : List ℕ) → n ≤ digits_value_after 10 n ds
raised n [] = omega arith
raised n (d ∷ ds) = omega (arith, raised (n * 10 + digit_value d) ds)

-- one digit more
next_digit : (n d : ℕ) → 0 < n → digit_value d < 10 → n * 10 + digit_value d < 10 ^ 64 → decimal (n * 10 + digit_value d) ≡ decimal n ++ d ∷ []
next_digit n d some digit small =
    let is : digit_value d + 48 ≡ d = digit_value_digit d (digit_from_value d digit) in
    let front : (n * 10 + digit_value d) / 10 ≡ n = omega arith in
    let back : 48 + (n * 10 + digit_value d) % 10 ≡ d = omega arith in
    decimal_step_wide (n * 10 + digit_value d) (omega arith) small ∙ rw (front, back) refl

-- digits after a number other than 0
written_after : (n : ℕ) (ds : List ℕ) → 0 < n → AllDigits 10 ds → digits_value_after 10 n ds < 10 ^ 64 → decimal (digits_value_after 10 n ds) ≡ decimal n ++ ds
written_after n [] some digits small = sym (append-nil (decimal n))
written_after n (d ∷ ds) some digits small =
    written_after (n * 10 + digit_value d) ds (omega arith) digits.1 small
    ∙ ap (λ t. t ++ ds) (next_digit n d some digits.0 (omega (arith, raised (n * 10 + digit_value d) ds)))
    ∙ append_assoc (decimal n) (d ∷ []) ds

-- one digit
one_digit : (d : ℕ) → digit_value d < 10 → decimal (0 * 10 + digit_value d) ≡ d ∷ []
one_digit d digit =
    let is : digit_value d + 48 ≡ d = digit_value_digit d (digit_from_value d digit) in
    let same : 48 + (0 * 10 + digit_value d) ≡ d = omega arith in
    decimal_digit (0 * 10 + digit_value d) (omega arith) ∙ rw same refl

all_digits : (w : List ℕ) → list_all is_ascii_digit w ≡ true → AllDigits 10 w
all_digits w test = digits_model.to w test

-- bytes of the form that is read are what is printed of their value
written-read : (w : List ℕ) → is_number w ≡ true → digits_value 10 w < 10 ^ 64 → decimal (digits_value 10 w) ≡ w
written-read [] form small = cc
written-read (b ∷ []) form small = one_digit b (all_digits (b ∷ []) (rw form refl)).0
written-read (b ∷ c ∷ bs) form small =
    let tests = and_parts (not (b == 48)) (list_all is_ascii_digit (b ∷ c ∷ bs)) form in
    let digits = all_digits (b ∷ c ∷ bs) tests.1 in
    let is : digit_value b + 48 ≡ b = digit_value_digit b (digit_from_value b digits.0) in
    let some : 0 < 0 * 10 + digit_value b = let other = tests.0 in grind (arith, nat_tests) in
    written_after (0 * 10 + digit_value b) (c ∷ bs) some digits.1 small ∙ ap (λ t. t ++ c ∷ bs) (one_digit b digits.0)

-- a number below a limit
pub number-sound : (limit : ℕ) (w : List ℕ) → limit ≤ 10 ^ 64 → IfSome (number_below limit w) (WritesNumber limit w)
number-sound limit w wide = by (is_number w) (nat_lt (digits_value 10 w) limit) refl refl
  where
    by : (a b : Bool) → is_number w ≡ a → nat_lt (digits_value 10 w) limit ≡ b → IfSome (if a && b then Some (digits_value 10 w) else None) (WritesNumber limit w)
    by true true form test =
        let below : digits_value 10 w < limit = grind (arith, nat_tests) in
        record { below = below; written = sym (written-read w form (omega arith)) }
    by true false form test = tt
    by false b form test = tt

-- the bytes are what is printed of a magnitude
record WritesMagnitude (most : ℤ) (w : List ℕ) (z : ℤ) : Type 0 where
  size : ℕ
  is : z ≡ pos size
  high : pos size ≤ℤ most
  written : w ≡ decimal size

module _ (most : ℤ) (wide : most ≤ℤ pos (10 ^ 63)) where
  magnitude-sound : (w : List ℕ) → IfSome (number_up_to most w) (WritesMagnitude most w)
  magnitude-sound w = by (is_number w) (int_le (pos (digits_value 10 w)) most) refl refl
    where
      by : (a b : Bool) → is_number w ≡ a → int_le (pos (digits_value 10 w)) most ≡ b → IfSome (if a && b then Some (pos (digits_value 10 w)) else None) (WritesMagnitude most w)
      by true true form test =
          let high : pos (digits_value 10 w) ≤ℤ most = grind (arith, ints) in
          record { size = digits_value 10 w; is = refl; high = high; written = sym (written-read w form (omega (arith, ints))) }
      by true false form test = tt
      by false b form test = tt

  opposite-sound : (w : List ℕ) (n : ℕ) → pos n ≤ℤ most → w ≡ decimal n → IfSome (negated (pos n)) (WritesSigned most (45 ∷ w))
  opposite-sound w zero high written = tt
  opposite-sound w (suc n) high written =
      subst (λ o. IfSome o (WritesSigned most (45 ∷ w))) (sym (negated-is n)) (record { low = omega (arith, ints); high = omega (arith, ints); written = ap (λ ds. 45 ∷ ds) written })

  negated-sound : (w : List ℕ) (o : Option ℤ) → IfSome o (WritesMagnitude most w) → IfSome (option_and_then negated o) (WritesSigned most (45 ∷ w))
  negated-sound w None m = tt
  negated-sound w (Some z) m = subst (λ x. IfSome (negated x) (WritesSigned most (45 ∷ w))) (sym m.is) (opposite-sound w m.size m.high m.written)

  positive-sound : (w : List ℕ) (o : Option ℤ) → IfSome o (WritesMagnitude most w) → IfSome o (WritesSigned most w)
  positive-sound w None m = tt
  positive-sound w (Some z) m =
      let high = m.high in
      let written = m.written in
      rw m.is (let is : WritesSigned most w (pos m.size) = record { low = omega (arith, ints); high = high; written = written } in is)

  -- a number of either sign
  pub signed-sound : (w : List ℕ) → IfSome (signed_up_to most w) (WritesSigned most w)
  signed-sound [] = tt
  signed-sound (b ∷ bs) = by (b == 45) refl
    where
      by : (minus : Bool) → (b == 45) ≡ minus → IfSome (if minus then option_and_then negated (number_up_to most bs) else number_up_to most (b ∷ bs)) (WritesSigned most (b ∷ bs))
      by true test =
          let is : b ≡ 45 = grind (arith, nat_tests) in
          subst (λ x. IfSome (option_and_then negated (number_up_to most bs)) (WritesSigned most (x ∷ bs))) (sym is) (negated-sound bs (number_up_to most bs) (magnitude-sound bs))
      by false test = positive-sound (b ∷ bs) (number_up_to most (b ∷ bs)) (magnitude-sound (b ∷ bs))

some-holds : {X : Type 0} (P : X → Type 0) (o : Option X) (x : X) → IfSome o P → o ≡ Some x → P x
some-holds P o x holds is = subst (λ o. IfSome o P) is holds

pub numbers-decimal : NumbersAreDecimal
numbers-decimal limit w n wide = (
  λ read. some-holds (WritesNumber limit w) _ n (number-sound limit w wide) read,
  λ is. ap (number_below limit) is.written ∙ number-below-printed limit n wide is.below,
)

pub signed-decimal : SignedNumbersAreDecimal
signed-decimal most w z wide = (
  λ read. some-holds (WritesSigned most w) _ z (signed-sound most wide w) read,
  λ is. ap (signed_up_to most) is.written ∙ signed-printed most z wide is.low is.high,
)
