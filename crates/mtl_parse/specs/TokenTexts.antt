-- The texts of tokens, and the tokens of a text as what it is made of.
use Rattle.std.specs.Prelude.{◌≡◌, ◌↔◌, ℕ, ◌+◌, not, Bool, true, false, List, [], ◌∷◌, ◌++◌, length, codes, Ok, Err, if◌then◌else◌}
use Rattle.std.specs.Fmt.{decimal}
use Rattle.mt_model.specs.Name.{is_digit, is_name_byte}
use Rattle.mtl_parse.specs.declared.fault.FormulaFault.{FormulaFault}
use Rattle.mtl_parse.specs.declared.fault.FormulaFault.TheVariants as fault
use Rattle.mtl_parse.specs.Tokens.{U, S, F, G, O, H, Token, Open, Close, OpenBracket, CloseBracket, Comma, Dot, Bang, Ampersand, Bar, Arrow, InfixLetter, PrefixLetter, Number, Word, Placed, is_blank, tokens_of}
use Rattle.mtl_parse.specs.Machine.{is_sound}

-- the text of a token
abbrev pub token_text : Token → List ℕ
token_text Open = codes "("
token_text Close = codes ")"
token_text OpenBracket = codes "["
token_text CloseBracket = codes "]"
token_text Comma = codes ","
token_text Dot = codes "."
token_text Bang = codes "!"
token_text Ampersand = codes "&"
token_text Bar = codes "|"
token_text Arrow = codes "->"
token_text (InfixLetter U) = codes "U"
token_text (InfixLetter S) = codes "S"
token_text (PrefixLetter F) = codes "F"
token_text (PrefixLetter G) = codes "G"
token_text (PrefixLetter O) = codes "O"
token_text (PrefixLetter H) = codes "H"
token_text (Number value) = decimal value
token_text (Word bytes) = bytes

-- a byte goes on with a word, or with a number
abbrev pub goes_on : Token → ℕ → Bool
goes_on (Word bytes) b = is_name_byte b
goes_on (Number value) b = is_digit b
goes_on _ b = false

-- a token before these bytes is as long as it can be: the first of them, if there is one, does not go on with it
abbrev pub is_longest : Token → List ℕ → Bool
is_longest t [] = true
is_longest t (b ∷ bs) = not (goes_on t b)

-- the bytes, of which the first is at a place of the text, are blanks and the texts of these tokens in order, up to an end and the rest after it; each token is at its byte, is a name where it is a word and at most 10^18 where it is a number, and is as long as it can be
pub data AreBlanksAndTokens (end : ℕ) (rest : List ℕ) : ℕ → List ℕ → List Placed → Type 0 where
  nothing : AreBlanksAndTokens end rest end rest []
  blank : (place b : ℕ) (bytes : List ℕ) (ps : List Placed) → is_blank b ≡ true → AreBlanksAndTokens end rest (place + 1) bytes ps → AreBlanksAndTokens end rest place (b ∷ bytes) ps
  token : (place : ℕ) (t : Token) (after bytes : List ℕ) (ps : List Placed) → bytes ≡ token_text t ++ after → is_sound t ≡ true → is_longest t after ≡ true
      → AreBlanksAndTokens end rest (place + length (token_text t)) after ps → AreBlanksAndTokens end rest place bytes (record { token = t; byte = place } ∷ ps)

-- no token's text that is as long as it can be stands at the front of the bytes
abbrev pub BeginsNoToken : List ℕ → Type 0
BeginsNoToken bytes = (t : Token) (after : List ℕ) → bytes ≡ token_text t ++ after → is_sound t ≡ true → is_longest t after ≡ true → ⊥

-- the fault of a byte at a place: a digit begins a number out of form
abbrev pub fault_at : (byte place : ℕ) → FormulaFault
fault_at byte place = if is_digit byte then fault.Number place else fault.Token place

-- blanks and tokens stand before a byte that is no blank and begins no token, which is the fault
pub record HasFault (start : ℕ) (bytes : List ℕ) (f : FormulaFault) : Type 0 where
  pub place : ℕ
  pub byte : ℕ
  pub after : List ℕ
  pub tokens : List Placed
  pub before : AreBlanksAndTokens place (byte ∷ after) start bytes tokens
  pub solid : is_blank byte ≡ false
  pub none : BeginsNoToken (byte ∷ after)
  pub fault : f ≡ fault_at byte place

-- the tokens of a text are those of which it is made, with blanks
abbrev pub TextsAreBlanksAndTokens : Type 0
TextsAreBlanksAndTokens = (text : List ℕ) (ps : List Placed) → (tokens_of text ≡ Ok ps) ↔ AreBlanksAndTokens (length text) [] 0 text ps

-- a text has no tokens where blanks and tokens stand before a byte that begins none
abbrev pub OtherTextsHaveFaults : Type 0
OtherTextsHaveFaults = (text : List ℕ) (f : FormulaFault) → (tokens_of text ≡ Err f) ↔ HasFault 0 text f
