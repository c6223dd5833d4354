-- Where the hosts of a formula's propositions stand in its text.
use Rattle.std.specs.Prelude.{ℕ, List, [], ◌∷◌, Bool, true, false, Option, None, Result, Ok, Err, if◌then◌else◌, option_map, slice_get}
use Rattle.mtl_parse.specs.declared.fault.FormulaFault.{FormulaFault}
use Rattle.mtl_parse.specs.Tokens.{Placed, Token, Dot, tokens_of}

-- a `.`
abbrev pub is_dot : Token → Bool
is_dot Dot = true
is_dot _ = false

-- a `.` is the first of the tokens
abbrev pub begins_with_dot : List Placed → Bool
begins_with_dot [] = false
begins_with_dot (p ∷ ps) = is_dot p.token

-- the tokens that a dot follows, in order: in a formula these are the hosts of its propositions
abbrev pub before_dots : List Placed → List Placed
before_dots [] = []
before_dots (p ∷ ps) = if begins_with_dot ps then p ∷ before_dots ps else before_dots ps

-- the byte of a host among the tokens, by its number
abbrev pub host_in : Result (List Placed) FormulaFault → ℕ → Option ℕ
host_in (Ok ps) number = option_map (λ p. p.byte) (slice_get (before_dots ps) number)
host_in (Err f) number = None

-- the byte of the host of a proposition, by its number from 0 and from left to right
abbrev pub host_byte : List ℕ → ℕ → Option ℕ
host_byte text number = host_in (tokens_of text) number
