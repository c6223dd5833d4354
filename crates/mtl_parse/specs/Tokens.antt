-- The tokens of a formula's text. Bytes count from 0.
use Rattle.std.specs.Prelude.{ℕ, ◌+◌, ◌-◌, ◌==◌, ◌&&◌, ◌||◌, not, nat_le, Bool, false, List, [], ◌∷◌, length, take_while, Result, Ok, Err, if◌then◌else◌}
use Rattle.std.proofs.Common.{zero, suc}
use Rattle.std.specs.Str.Parse.{digits_value}
use Rattle.mt_model.specs.declared.limits.TheConstants.{MAX_DISTANCE, MAX_NAME_LENGTH}
use Rattle.mt_model.specs.Name.{is_digit, is_letter, is_name_byte}
use Rattle.mtl_parse.specs.declared.fault.FormulaFault.{FormulaFault}
use Rattle.mtl_parse.specs.declared.fault.FormulaFault.TheVariants as fault

-- `U` and `S`, which stand between two formulas
pub data Infix : Type 0 where
  U : Infix
  S : Infix

-- `F`, `G`, `O` and `H`, which stand before a formula
pub data Prefix : Type 0 where
  F : Prefix
  G : Prefix
  O : Prefix
  H : Prefix

-- `(`, `)`, `[`, `]`, `,`, `.`, `!`, `&`, `|`, `->`, the letters, a number and a word
pub data Token : Type 0 where
  Open : Token
  Close : Token
  OpenBracket : Token
  CloseBracket : Token
  Comma : Token
  Dot : Token
  Bang : Token
  Ampersand : Token
  Bar : Token
  Arrow : Token
  InfixLetter : Infix → Token
  PrefixLetter : Prefix → Token
  Number : (value : ℕ) → Token
  Word : (bytes : List ℕ) → Token

-- a token and the byte at which it begins
pub record Placed : Type 0 where
  pub token : Token
  pub byte : ℕ

-- space, tab, carriage return or newline
abbrev pub is_blank : ℕ → Bool
is_blank b = (b == 32) || (b == 9) || (b == 13) || (b == 10)

-- what stands at a byte that is no blank: a token that has some more bytes after its first one, or a fault
pub data Lexeme : Type 0 where
  Found : (token : Token) → (more : ℕ) → Lexeme
  NoToken : Lexeme
  BadNumber : Lexeme

-- a longest run of letters, digits and `_` that begins with a letter is a word, unless it is longer than 32 bytes
abbrev pub word_lexeme : List ℕ → Lexeme
word_lexeme run = if nat_le (length run) MAX_NAME_LENGTH then Found (Word run) (length run - 1) else NoToken

-- more than one digit, of which the first is `0`
abbrev pub has_leading_zero : List ℕ → Bool
has_leading_zero [] = false
has_leading_zero (b ∷ []) = false
has_leading_zero (b ∷ c ∷ bs) = b == 48

-- a longest run of digits is a number, unless it has a leading zero or is above 10^18
abbrev pub number_lexeme : List ℕ → Lexeme
number_lexeme run = if not (has_leading_zero run) && nat_le (digits_value 10 run) MAX_DISTANCE then Found (Number (digits_value 10 run)) (length run - 1) else BadNumber

-- `->`
abbrev pub arrow_lexeme : List ℕ → Lexeme
arrow_lexeme [] = NoToken
arrow_lexeme (b ∷ bs) = if b == 62 then Found Arrow 1 else NoToken

-- the token that a byte is by itself
abbrev pub sign_lexeme : ℕ → Lexeme
sign_lexeme b =
    if b == 40 then Found Open 0
    else if b == 41 then Found Close 0
    else if b == 91 then Found OpenBracket 0
    else if b == 93 then Found CloseBracket 0
    else if b == 44 then Found Comma 0
    else if b == 46 then Found Dot 0
    else if b == 33 then Found Bang 0
    else if b == 38 then Found Ampersand 0
    else if b == 124 then Found Bar 0
    else if b == 85 then Found (InfixLetter U) 0
    else if b == 83 then Found (InfixLetter S) 0
    else if b == 70 then Found (PrefixLetter F) 0
    else if b == 71 then Found (PrefixLetter G) 0
    else if b == 79 then Found (PrefixLetter O) 0
    else if b == 72 then Found (PrefixLetter H) 0
    else NoToken

-- what stands at a byte, with the bytes after it
abbrev pub lexeme_at : ℕ → List ℕ → Lexeme
lexeme_at b bs =
    if is_letter b then word_lexeme (take_while is_name_byte (b ∷ bs))
    else if is_digit b then number_lexeme (take_while is_digit (b ∷ bs))
    else if b == 45 then arrow_lexeme bs
    else sign_lexeme b

-- a token, and then those that were found
abbrev pub with_token : Placed → Result (List Placed) FormulaFault → Result (List Placed) FormulaFault
with_token p (Ok ps) = Ok (p ∷ ps)
with_token p (Err f) = Err f

-- what stands at a place, and then what stands after it
abbrev pub then_tokens : ℕ → Lexeme → (ℕ → Result (List Placed) FormulaFault) → Result (List Placed) FormulaFault
then_tokens place (Found token more) after = with_token (record { token = token; byte = place }) (after more)
then_tokens place NoToken after = Err (fault.Token place)
then_tokens place BadNumber after = Err (fault.Number place)

-- the tokens of bytes of which the first is at a place of the text, and the first few belong to the token before; or the first fault
abbrev pub tokens_from : (belong : ℕ) → (place : ℕ) → List ℕ → Result (List Placed) FormulaFault
tokens_from belong place [] = Ok []
tokens_from (suc belong) place (b ∷ bs) = tokens_from belong (place + 1) bs
tokens_from zero place (b ∷ bs) = if is_blank b then tokens_from 0 (place + 1) bs else then_tokens place (lexeme_at b bs) (λ more. tokens_from more (place + 1) bs)

-- the tokens of a text, or its first fault: a byte that begins no token, a word that is too long, or a number out of form
abbrev pub tokens_of : List ℕ → Result (List Placed) FormulaFault
tokens_of text = tokens_from 0 0 text
