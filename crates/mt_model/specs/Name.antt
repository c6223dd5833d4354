-- Names of hosts, propositions, messages, notes and clocks.
use Rattle.std.specs.Prelude.{ℕ, ◌==◌, ◌&&◌, ◌||◌, nat_le, Bool, false, List, [], ◌∷◌, length, bytes_eq, codes}
use Rattle.std.specs.List.{list_all}
use Rattle.mt_model.specs.declared.limits.TheConstants.{MAX_NAME_LENGTH}

-- `a` to `z`
abbrev pub is_letter : ℕ → Bool
is_letter b = nat_le 97 b && nat_le b 122

-- `0` to `9`
abbrev pub is_digit : ℕ → Bool
is_digit b = nat_le 48 b && nat_le b 57

-- a letter, a digit or `_`
abbrev pub is_name_byte : ℕ → Bool
is_name_byte b = is_letter b || is_digit b || (b == 95)

-- not empty nor too long, the first byte a letter, the others name bytes
abbrev pub is_name : List ℕ → Bool
is_name [] = false
is_name (b ∷ bs) = is_letter b && list_all is_name_byte bs && nat_le (length (b ∷ bs)) MAX_NAME_LENGTH

-- the words that name no host
abbrev pub is_reserved : List ℕ → Bool
is_reserved name = bytes_eq name (codes "true") || bytes_eq name (codes "false") || bytes_eq name (codes "inf")
