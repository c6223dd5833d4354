-- What words say, and the normal list of it.
use Rattle.std.specs.Prelude.{◌≡◌, ℕ, Bool, true, false, List, [], ◌∷◌, ◌++◌, Option, Some, None, IsSome, codes, option_map, option_and_then, if◌then◌else◌}
use Rattle.skew_words.specs.declared.limits.TheConstants.{DEFAULT_CONFLICTS}
use Rattle.skew_words.specs.declared.call.Call.{Call}
use Rattle.skew_words.specs.declared.table.Verb.{Verb}
use Rattle.skew_words.specs.declared.words.Spoken.{Spoken}
use Rattle.skew_words.specs.Called.{command_in, words_in}
use Rattle.skew_words.specs.Table.{are_operands, row_of}
use Rattle.skew_words.specs.Words.{Command, Word, command_from, conflicts_of}

-- the first word of what is spoken
abbrev pub verb_of : Spoken → Verb
verb_of s = s.verb

-- the option as it is spoken, where it is given
abbrev pub option_of : Spoken → Option Word
option_of s = option_map (λ text. text.now) s.conflicts

-- the number of conflicts that the option writes, where the option is taken, or else the default
abbrev pub conflicts_said : Bool → Option Word → Option ℕ
conflicts_said taken None = Some DEFAULT_CONFLICTS
conflicts_said true (Some text) = conflicts_of text
conflicts_said false (Some text) = None

-- the command that a first word makes of an option, where it is given, and as many operands as its row has
abbrev pub command_given : Verb → Option Word → List Word → Option Command
command_given v conflicts operands = option_and_then (λ n. command_from v n operands) (conflicts_said (row_of v).takes_conflicts conflicts)

-- the command that is spoken, where the operands are those of its row
abbrev pub command_said : Spoken → Option Command
command_said s = if are_operands (row_of s.verb).operands (words_in s.operands) then command_given s.verb (option_of s) (words_in s.operands) else None

-- the option in one word, where it is given
abbrev pub option_words : Option Word → List Word
option_words None = []
option_words (Some text) = (codes "--conflicts=" ++ text) ∷ []

-- a name of the program, the option where it is given, `--`, and the operands in order
abbrev pub normal_list : Option Word → List Word → List Word
normal_list conflicts operands = codes "skewcheck" ∷ option_words conflicts ++ codes "--" ∷ operands

-- the normal list of what is spoken
abbrev pub normal_words : Spoken → List Word
normal_words s = normal_list (option_of s) (words_in s.operands)

-- the list is the normal list of a command with this first word
abbrev pub IsNormal : Verb → List Word → Type 0
IsNormal v list = (s : Spoken) × (verb_of s ≡ v) × (list ≡ normal_words s) × IsSome (command_said s)

-- the call is the command whose normal list it is
abbrev pub Calls : Verb → List Word → Call → Type 0
Calls v list call = (s : Spoken) → verb_of s ≡ v → list ≡ normal_words s → command_said s ≡ Some (command_in call)
