-- Names, numbers and the words of a log are fields without a comma, a quote or the end of a line.
use Rattle.std.proofs.Common.{◌≡◌, refl, arith, ℕ, suc, ◌^◌, ◌<◌, Bool, true, false, List, [], ◌∷◌, ℤ, pos, negsuc, ◌+ℤ◌, ◌≤ℤ◌}
use Rattle.std.specs.Prelude.{◌&&◌}
use Rattle.std.specs.Char.{is_ascii_digit}
use Rattle.std.specs.Fmt.{decimal, signed_decimal}
use Rattle.std.specs.List.{list_all, list_any}
use Rattle.std.proofs.lemmas.Bool.Decides.{nat_tests}
use Rattle.std.proofs.lemmas.Int.{ints}
use Rattle.csv.specs.Writing.{default_writer, needs_byte}
use Rattle.mt_model.specs.Name.{is_letter, is_name, is_name_byte}
use Rattle.decimal.proofs.Printed.{digits-printed}
use Rattle.log_read.proofs.Lines.{IsPlainField}
use Rattle.std.proofs.lemmas.Bool.{and_parts, or_from}

digit-plain : (b : ℕ) → is_ascii_digit b ≡ true → needs_byte default_writer b ≡ false
digit-plain b digit = grind (arith, nat_tests)

name_byte-plain : (b : ℕ) → is_name_byte b ≡ true → needs_byte default_writer b ≡ false
name_byte-plain b part = grind (arith, nat_tests)

letter-plain : (b : ℕ) → is_letter b ≡ true → needs_byte default_writer b ≡ false
letter-plain b letter = grind (arith, nat_tests)

all-plain : (p : ℕ → Bool) → ((b : ℕ) → p b ≡ true → needs_byte default_writer b ≡ false) → (bs : List ℕ) → list_all p bs ≡ true → IsPlainField bs
all-plain p each [] all = refl
all-plain p each (b ∷ bs) all =
    let parts = and_parts (p b) (list_all p bs) all in
    or_from (needs_byte default_writer b) (list_any (needs_byte default_writer) bs) (each b parts.0) (all-plain p each bs parts.1)

-- a name
pub name-plain : (name : List ℕ) → is_name name ≡ true → IsPlainField name
name-plain [] is = cc
name-plain (b ∷ bs) is =
    let parts = and_parts (is_letter b && list_all is_name_byte bs) _ is in
    let bytes = and_parts (is_letter b) (list_all is_name_byte bs) parts.0 in
    or_from (needs_byte default_writer b) (list_any (needs_byte default_writer) bs) (letter-plain b bytes.0) (all-plain is_name_byte name_byte-plain bs bytes.1)

pub decimal-plain : (n : ℕ) → n < 10 ^ 64 → IsPlainField (decimal n)
decimal-plain n small = all-plain is_ascii_digit digit-plain (decimal n) (digits-printed n small)

-- a number
pub signed_decimal-plain : (z : ℤ) → pos 0 ≤ℤ (z +ℤ pos (10 ^ 63)) → z ≤ℤ pos (10 ^ 63) → IsPlainField (signed_decimal z)
signed_decimal-plain (pos n) low high = decimal-plain n (omega (arith, ints))
signed_decimal-plain (negsuc n) low high = decimal-plain (suc n) (omega (arith, ints))
