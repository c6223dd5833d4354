-- Decimal numbers, as bytes write them.
use Rattle.std.specs.Prelude.{◌==◌, ◌&&◌, not, int_le, nat_lt, Bool, false, List, [], ◌∷◌, ℕ, Option, Some, None, option_and_then, if◌then◌else◌, ℤ, pos, neg_ℤ}
use Rattle.std.specs.Ordering.{int_eq}
use Rattle.std.specs.Char.{is_ascii_digit}
use Rattle.std.specs.List.{list_all}
use Rattle.std.specs.Str.Parse.{digits_value}

-- one digit, or digits of which the first is not `0`
abbrev pub is_number : List ℕ → Bool
is_number [] = false
is_number (b ∷ []) = is_ascii_digit b
is_number (b ∷ c ∷ bs) = not (b == 48) && list_all is_ascii_digit (b ∷ c ∷ bs)

-- the number below a limit that the bytes write
abbrev pub number_below : ℕ → List ℕ → Option ℕ
number_below limit bytes = if is_number bytes && nat_lt (digits_value 10 bytes) limit then Some (digits_value 10 bytes) else None

-- the number that the bytes write, where it is at most a limit
abbrev pub number_up_to : ℤ → List ℕ → Option ℤ
number_up_to most bytes =
    if is_number bytes && int_le (pos (digits_value 10 bytes)) most then Some (pos (digits_value 10 bytes)) else None

-- a number with a minus before it, unless it is 0
abbrev pub negated : ℤ → Option ℤ
negated z = if int_eq z (pos 0) then None else Some (neg_ℤ z)

-- a number, or `-` and a number other than 0, of a magnitude at most a limit
abbrev pub signed_up_to : ℤ → List ℕ → Option ℤ
signed_up_to most [] = None
signed_up_to most (b ∷ bs) = if b == 45 then option_and_then negated (number_up_to most bs) else number_up_to most (b ∷ bs)
