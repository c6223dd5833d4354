-- What clap is to read after each command word, and the command that its matches give.
use Rattle.std.specs.Prelude.{◌≡◌, ℕ, List, [], ◌∷◌, ◌++◌, Bool, Option, Some, None, codes, fold, map, option_map, option_and_then, true, false}
use Rattle.clap.specs.Words.{App, Rule, first_value, found_of, new_app, new_rule, with_rule}
use Rattle.clap.specs.declared.builder.action.ArgAction.TheVariants.{Set}
use Rattle.clap.specs.declared.parser.matches.ArgMatches.{ArgMatches}
use Rattle.skew_words.specs.declared.table.Operand.{Operand}
use Rattle.skew_words.specs.declared.table.Verb.{Verb}
use Rattle.skew_words.specs.declared.words.Spoken.{Spoken}
use Rattle.skew_words.specs.NormalWords.{command_given, command_said, normal_words, verb_of}
use Rattle.skew_words.specs.Table.{name_of, row_of}
use Rattle.skew_words.specs.Words.{Command, Word}

-- a required positional value
abbrev pub operand_rule : List ℕ → Rule
operand_rule name = record (new_rule name) { required = true }

-- the option `--conflicts`, which sets a value
abbrev pub conflicts_rule : Rule
conflicts_rule = record (new_rule (codes "conflicts")) { long = Some (codes "conflicts"); action = Some Set }

-- the option, where it is taken
abbrev pub option_rules : Bool → List Rule
option_rules true = conflicts_rule ∷ []
option_rules false = []

-- the command of each command word: the option where it is taken, and the operands in order
abbrev pub app_for : Verb → App
app_for v = fold with_rule (new_app (row_of v).word) (option_rules (row_of v).takes_conflicts ++ map (λ o. operand_rule (name_of o)) (row_of v).operands)

-- the values of operands by their names, where each has one
abbrev pub values_of : List Operand → (List ℕ → Option Word) → Option (List Word)
values_of [] value = Some []
values_of (o ∷ os) value = option_and_then (λ word. option_map (λ words. word ∷ words) (values_of os value)) (value (name_of o))

-- the value of the option, where it is taken
abbrev pub option_value_of : Bool → (List ℕ → Option Word) → Option Word
option_value_of true value = value (codes "conflicts")
option_value_of false value = None

-- the command of a command word whose operands and option have these values, by their names
abbrev pub command_matched : Verb → (List ℕ → Option Word) → Option Command
command_matched v value = option_and_then (command_given v (option_value_of (row_of v).takes_conflicts value)) (values_of (row_of v).operands value)

-- the matches give the command whose normal list was read
abbrev pub GivesSpoken : Verb → List Word → ArgMatches → Type 0
GivesSpoken v list m = (s : Spoken) → verb_of s ≡ v → list ≡ normal_words s → command_matched v (first_value (found_of m)) ≡ command_said s
