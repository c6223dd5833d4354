-- Which lists of words are commands.
use Rattle.std.specs.Prelude.{ℕ, ◌+◌, ◌==◌, ◌&&◌, nat_le, Bool, false, List, [], ◌∷◌, ◌++◌, Option, Some, None, option_map, option_and_then, unwrap_or, if◌then◌else◌, bytes_eq, codes, length, take, drop}
use Rattle.std.specs.Str.Parse.{digits_value}
use Rattle.decimal.specs.Numbers.{is_number, number_below}
use Rattle.skew_words.specs.declared.limits.TheConstants.{DEFAULT_CONFLICTS, MAX_CONFLICTS, MAX_EVENT, MAX_WIDENING}
use Rattle.demo_log.specs.declared.limits.TheConstants.{MAX_SEED}
use Rattle.skew_words.specs.declared.table.Verb.{Verb}
use Rattle.skew_words.specs.declared.table.Verb.TheVariants as verb
use Rattle.skew_words.specs.Table.{are_operands, row_of, value_of, verb_named}
pub use Rattle.skew_words.specs.Table.{Word}

-- a command with the names of its files; `check`, `audit`, `tolerance` and `span` have a number of conflicts too, the last two also a truth value, and
-- the greatest widening or two events; and `demo` has a seed and no file
pub data Command : Type 0 where
  Times : (log : Word) → Command
  Replay : (formula : Word) → (log : Word) → (times : Word) → Command
  Order : (log : Word) → Command
  Check : (conflicts : ℕ) → (formula : Word) → (log : Word) → Command
  Audit : (conflicts : ℕ) → (formula : Word) → (log : Word) → (report : Word) → Command
  Trim : (report : Word) → Command
  Json : (json : Word) → Command
  Tolerance : (conflicts : ℕ) → (value : Bool) → (max : ℕ) → (formula : Word) → (log : Word) → Command
  Span : (conflicts : ℕ) → (value : Bool) → (from : ℕ) → (to : ℕ) → (formula : Word) → (log : Word) → Command
  Demo : (seed : ℕ) → Command

-- a word that begins with `-` and is not `-` alone
abbrev pub is_option : Word → Bool
is_option [] = false
is_option (b ∷ []) = false
is_option (b ∷ c ∷ bs) = b == 45

-- the operands of a command that takes no option: the words up to the first `--`, none of which is an option, and all words after it
abbrev pub operands_of : List Word → Option (List Word)
operands_of [] = Some []
operands_of (word ∷ words) =
    if bytes_eq word (codes "--") then Some words
    else if is_option word then None
    else option_map (λ rest. word ∷ rest) (operands_of words)

-- the number of conflicts: a number from 1 to 1,000,000
abbrev pub conflicts_of : Word → Option ℕ
conflicts_of word =
    if is_number word && nat_le 1 (digits_value 10 word) && nat_le (digits_value 10 word) MAX_CONFLICTS then Some (digits_value 10 word) else None

-- what follows these bytes at the front of a word
abbrev pub after : List ℕ → Word → Option Word
after front word = if bytes_eq (take (length front) word) front then Some (drop (length front) word) else None

-- the next word as the number of conflicts, and the words after it
abbrev pub next_value : List Word → Option (ℕ × List Word)
next_value [] = None
next_value (value ∷ words) = option_map (λ n. (n, words)) (conflicts_of value)

-- the number of conflicts that an option gives, and the words that it leaves: `--conflicts` takes the next word, `--conflicts=N` has the number in itself, and there is no other option
abbrev pub option_value : Word → List Word → Option (ℕ × List Word)
option_value option words =
    if bytes_eq option (codes "--conflicts") then next_value words
    else option_map (λ n. (n, words)) (option_and_then conflicts_of (after (codes "--conflicts=") option))

-- the operands of a command that takes the option, and the number of conflicts where the option is given
pub record Given : Type 0 where
  pub operands : List Word
  pub conflicts : Option ℕ

-- operands without the option
abbrev pub plain : List Word → Given
plain operands = record { operands = operands; conflicts = None }

-- what an option and the words after it give: up to the first `--` none of these is an option again
abbrev pub given_by : Word → List Word → Option Given
given_by option words =
    option_and_then (λ v. option_map (λ operands. record { operands = operands; conflicts = Some v.0 }) (operands_of v.1)) (option_value option words)

-- what is given with these operands before the others
abbrev pub with_front : List Word → Given → Given
with_front front g = record { operands = front ++ g.operands; conflicts = g.conflicts }

-- what the words give to a command that takes the option: up to the first `--` one of them may be the option
abbrev pub given_of : List Word → Option Given
given_of [] = Some (plain [])
given_of (word ∷ words) =
    if bytes_eq word (codes "--") then Some (plain words)
    else if is_option word then given_by word words
    else option_map (with_front (word ∷ [])) (given_of words)

-- the seed of the demo: a number from 0 to 18,446,744,073,709,551,615
abbrev pub seed_of : Word → Option ℕ
seed_of word = number_below (MAX_SEED + 1) word

-- the greatest widening: a number from 0 to 10^18
abbrev pub widening_of : Word → Option ℕ
widening_of word = number_below (MAX_WIDENING + 1) word

-- an event: a number from 0 to 4,294,967,295
abbrev pub event_of : Word → Option ℕ
event_of word = number_below (MAX_EVENT + 1) word

-- two events, where they differ
abbrev pub events_of : Word → Word → Option (ℕ × ℕ)
events_of from to = option_and_then (λ e. option_and_then (λ f. if e == f then None else Some (e, f)) (event_of to)) (event_of from)

-- the number of conflicts that is given, or else 200,000
abbrev pub conflicts_in : Given → ℕ
conflicts_in g = unwrap_or g.conflicts DEFAULT_CONFLICTS

-- the command that a first word makes of a number of conflicts and as many operands as its row has
abbrev pub command_from : Verb → ℕ → List Word → Option Command
command_from verb.Times n (log ∷ []) = Some (Times log)
command_from verb.Replay n (formula ∷ log ∷ times ∷ []) = Some (Replay formula log times)
command_from verb.Order n (log ∷ []) = Some (Order log)
command_from verb.Check n (formula ∷ log ∷ []) = Some (Check n formula log)
command_from verb.Audit n (formula ∷ log ∷ report ∷ []) = Some (Audit n formula log report)
command_from verb.Trim n (report ∷ []) = Some (Trim report)
command_from verb.Json n (json ∷ []) = Some (Json json)
command_from verb.Tolerance n (value ∷ max ∷ formula ∷ log ∷ []) = option_and_then (λ v. option_map (λ m. Tolerance n v m formula log) (widening_of max)) (value_of value)
command_from verb.Span n (value ∷ from ∷ to ∷ formula ∷ log ∷ []) =
    option_and_then (λ v. option_map (λ events. Span n v events.0 events.1 formula log) (events_of from to)) (value_of value)
command_from verb.Demo n (seed ∷ []) = option_map Demo (seed_of seed)
command_from v n operands = None

-- the same where the operands are those of the row, and otherwise none
abbrev pub command_with : Verb → ℕ → List Word → Option Command
command_with v n operands = if are_operands (row_of v).operands operands then command_from v n operands else None

-- what the words after a first word give: the option is for those alone whose row takes it
abbrev pub given_to : Verb → List Word → Option Given
given_to v words = if (row_of v).takes_conflicts then given_of words else option_map plain (operands_of words)

-- the command of a first word and the words after it
abbrev pub command_after : Verb → List Word → Option Command
command_after v words = option_and_then (λ g. command_with v (conflicts_in g) g.operands) (given_to v words)

-- the command that words are; no word at all is `times -`
abbrev pub command_of : List Word → Option Command
command_of [] = Some (Times (codes "-"))
command_of (first ∷ words) = option_and_then (λ v. command_after v words) (verb_named first)
