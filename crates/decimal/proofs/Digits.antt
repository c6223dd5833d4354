-- Texts of digits, for the lemmas of std on what `parse` gives.
use Rattle.std.proofs.Common.{◌≡◌, ℕ, List, true, rules}
use Rattle.std.specs.Prelude.{IsUtf8}
use Rattle.std.specs.Char.{is_ascii_digit}
use Rattle.std.specs.List.{list_all}
use Rattle.std.specs.Str.Parse.{digits_value}
use Rattle.std.proofs.lemmas.Str.{IsUtf8-from_ascii}
use Rattle.std.proofs.lemmas.Fmt.{IsAscii-from_digits}
use Rattle.std.proofs.lemmas.Str.Parse.{IsNumeralModel, numerals_by_value}

-- a text of digits is what the test says
pub digits_model : IsNumeralModel (λ ds. list_all is_ascii_digit ds ≡ true) (digits_value 10)
digits_model = numerals_by_value (λ ds. list_all is_ascii_digit ds ≡ true) (search rules)

-- digits are text
pub IsUtf8-digits : (ds : List ℕ) → list_all is_ascii_digit ds ≡ true → IsUtf8 ds
IsUtf8-digits ds all = IsUtf8-from_ascii ds (IsAscii-from_digits ds (digits_model.to ds all))
