-- A command of the code as the command that it is.
use Rattle.std.specs.Prelude.{◌≡◌, ◌≤◌, ℕ, List, [], ◌∷◌, ◌++◌, Option, Some, String, codes, map, option_and_then, option_map, string_bytes}
use Rattle.std.specs.declared.alloc.Global.{Global}
use Rattle.skew_words.specs.declared.limits.TheConstants.{MAX_CONFLICTS, MAX_WIDENING}
use Rattle.skew_words.specs.declared.call.Call.{Call}
use Rattle.skew_words.specs.declared.call.Call.TheVariants as call
use Rattle.skew_words.specs.declared.given.Given.{Given as GivenWords}
use Rattle.skew_words.specs.declared.operands.Operands.{Operands}
use Rattle.skew_words.specs.declared.operands.Operands.TheVariants as operands
use Rattle.skew_words.specs.Words.{Audit, Check, Command, Demo, Given, Json, Order, Replay, Span, Times, Tolerance, Trim, Word, conflicts_of, given_by, given_of, operands_of, option_value, plain, with_front}

-- the command that a call is
abbrev pub command_in : Call → Command
command_in (call.Times log) = Times log.now
command_in (call.Replay formula log times) = Replay formula.now log.now times.now
command_in (call.Order log) = Order log.now
command_in (call.Check conflicts formula log) = Check conflicts formula.now log.now
command_in (call.Audit conflicts formula log report) = Audit conflicts formula.now log.now report.now
command_in (call.Trim report) = Trim report.now
command_in (call.Json json) = Json json.now
command_in (call.Tolerance conflicts value max formula log) = Tolerance conflicts value max formula.now log.now
command_in (call.Span conflicts value from to formula log) = Span conflicts value from to formula.now log.now
command_in (call.Demo seed) = Demo seed

-- the operands, as words
abbrev pub words_in : Operands → List Word
words_in operands.Input = codes "-" ∷ []
words_in (operands.Words front before after) = map string_bytes (front.now ++ before.now ++ after.now)

-- strings, as words
abbrev pub words_of : List (String Global) → List Word
words_of strings = map string_bytes strings

-- the number that an option among strings gives, and the words that it leaves
abbrev pub value_by : String Global → List (String Global) → Option (ℕ × List Word)
value_by option strings = option_value (string_bytes option) (words_of strings)

-- the number is the one that a word writes, and these are left
abbrev pub GivesNumber : Option (ℕ × List Word) → Word → List (String Global) → Type 0
GivesNumber given text rest = (n : ℕ) × (conflicts_of text ≡ Some n) × (given ≡ Some (n, words_of rest))

-- strings give operands alone
abbrev pub GivesPlain : List (String Global) → Type 0
GivesPlain strings = given_of (words_of strings) ≡ option_map plain (operands_of (words_of strings))

-- what an option gives with the strings before it and those after it
abbrev pub given_around : List (String Global) → String Global → List (String Global) → Option Given
given_around front option rest = option_map (with_front (words_of front)) (given_by (string_bytes option) (words_of rest))

-- strings give what an option among them does
abbrev pub GivesAround : List (String Global) → List (String Global) → String Global → List (String Global) → Type 0
GivesAround strings front option rest = given_of (words_of strings) ≡ given_around front option rest

-- the option as it is given, where it is
abbrev pub option_in : GivenWords → Option Word
option_in g = option_map (λ text. text.now) g.conflicts

-- what is given, as words and the number that the option writes
abbrev pub given_in : GivenWords → Given
given_in g = record { operands = words_in g.operands; conflicts = option_and_then (λ text. conflicts_of text.now) g.conflicts }

-- where the call has a number of conflicts, it is from 1 to 1,000,000
abbrev pub HasFewConflicts : Call → Type 0
HasFewConflicts (call.Check conflicts formula log) = (1 ≤ conflicts) × (conflicts ≤ MAX_CONFLICTS)
HasFewConflicts (call.Audit conflicts formula log report) = (1 ≤ conflicts) × (conflicts ≤ MAX_CONFLICTS)
HasFewConflicts (call.Tolerance conflicts value max formula log) = (1 ≤ conflicts) × (conflicts ≤ MAX_CONFLICTS)
HasFewConflicts (call.Span conflicts value from to formula log) = (1 ≤ conflicts) × (conflicts ≤ MAX_CONFLICTS)
HasFewConflicts called = Unit {0}

-- where the call has a greatest widening, it is at most 10^18
abbrev pub HasSmallWidening : Call → Type 0
HasSmallWidening (call.Tolerance conflicts value max formula log) = max ≤ MAX_WIDENING
HasSmallWidening called = Unit {0}

-- where the call has two events, they differ
abbrev pub HasTwoEvents : Call → Type 0
HasTwoEvents (call.Span conflicts value from to formula log) = from ≡ to → ⊥
HasTwoEvents called = Unit {0}
