-- The lines that hints name, as numbers, and where these stand among the words of a line: each after the word `line`.
use Rattle.std.specs.Prelude.{◌≡◌, ℕ, ◌+◌, ◌^◌, ◌<◌, Bool, false, List, [], ◌∷◌, ◌++◌, length, take, Option, Some, None, bytes_eq, codes, get_or, if◌then◌else◌, unwrap_or, ◌≤◌}
use Rattle.std.specs.Fmt.{decimal}
use Rattle.std.specs.List.{filter_map, flat_map}
use Rattle.decimal.specs.Numbers.{number_below}
use Rattle.proof_log.specs.declared.line.Hint.{Hint}
use Rattle.proof_log.specs.declared.line.Hint.TheVariants as hint
use Rattle.proof_log.specs.declared.line.Line.{Line}
use Rattle.proof_log.specs.declared.line.Line.TheVariants as line
use Rattle.proof_log.specs.LinesText.{Word, spaced}
use Rattle.proof_log.specs.Reading.{words_after}

-- the number of the line that a hint names, if it names one
abbrev pub named_by : Hint → Option ℕ
named_by (hint.Line n) = Some n
named_by (hint.Rule r) = None

-- the numbers of the lines that the hints of a line name, in order
abbrev pub named_of : Line → List ℕ
named_of (line.Cycle steps) = []
named_of (line.Learn lits hints) = filter_map named_by hints

-- n is the number of a line before the one of this number
abbrev pub IsEarlier : ℕ → ℕ → Type 0
IsEarlier number n = (1 ≤ n) × (n < number)

-- the word before a number
abbrev pub is_line_word : Word → Bool
is_line_word w = bytes_eq w (codes "line")

-- the number that a word is
abbrev pub number_of : Word → ℕ
number_of w = unwrap_or (number_below (2 ^ 32) w) 0

-- the numbers among words, of which the first is one where it is due
abbrev pub named_in : Bool → List Word → List ℕ
named_in due [] = []
named_in due (w ∷ ws) = if due then number_of w ∷ named_in false ws else named_in (is_line_word w) ws

-- the words with other numbers
abbrev pub renamed_in : (ℕ → ℕ) → Bool → List Word → List Word
renamed_in place due [] = []
renamed_in place due (w ∷ ws) = if due then decimal (place (number_of w)) ∷ renamed_in place false ws else w ∷ renamed_in place (is_line_word w) ws

-- the first of the numbers among words is this, and these bytes are the words before and after it
pub record IsNextNamed (words front : List ℕ) (line : ℕ) (after : List ℕ) : Type 0 where
  pub before : List Word
  pub named : named_in false (words_after words) ≡ line ∷ named_in false (words_after after)
  pub renamed : (place : ℕ → ℕ) → renamed_in place false (words_after words) ≡ before ++ decimal (place line) ∷ renamed_in place false (words_after after)
  pub front_is : words ≡ spaced (words_after words) → front ≡ spaced before
  pub rest : words ≡ spaced (words_after words) → after ≡ spaced (words_after after)
  pub shorter : length after < length words

-- there is no number among words
pub record IsNoneNamed (words : List ℕ) : Type 0 where
  pub named : named_in false (words_after words) ≡ []
  pub renamed : (place : ℕ → ℕ) → renamed_in place false (words_after words) ≡ words_after words

-- these are the numbers of the lines that hints of the lines name, and where those of each line end among them
pub record AreNamed (lines : List Line) (numbers ends : List ℕ) : Type 0 where
  pub are : numbers ≡ flat_map named_of lines
  pub count : length ends ≡ length lines
  pub each : (i d : ℕ) → i < length ends → get_or ends i d ≡ length (flat_map named_of (take (i + 1) lines))
