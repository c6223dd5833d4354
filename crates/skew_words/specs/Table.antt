-- The table of commands.
use Rattle.std.specs.Prelude.{ℕ, ◌+◌, ◌&&◌, Bool, true, false, List, [], ◌∷◌, Option, Some, None, bytes_eq, codes, is_some, if◌then◌else◌}
use Rattle.std.specs.List.{find}
use Rattle.decimal.specs.Numbers.{number_below}
use Rattle.demo_log.specs.declared.limits.TheConstants.{MAX_SEED}
use Rattle.skew_words.specs.declared.limits.TheConstants.{MAX_EVENT, MAX_WIDENING}
use Rattle.skew_words.specs.declared.table.Kind.{Kind}
use Rattle.skew_words.specs.declared.table.Kind.TheVariants as kind
use Rattle.skew_words.specs.declared.table.Operand.{Operand}
use Rattle.skew_words.specs.declared.table.Operand.TheVariants as operand
use Rattle.skew_words.specs.declared.table.Verb.{Verb}
use Rattle.skew_words.specs.declared.table.Verb.TheVariants as verb

-- a word of the command line, as its bytes
abbrev pub Word : Type 0
Word = List ℕ

-- a row of the table: a first word, the operands in order, and whether the option `--conflicts` is taken
pub record Row : Type 0 where
  pub word : Word
  pub operands : List Operand
  pub takes_conflicts : Bool

-- the row of each command
abbrev pub row_of : Verb → Row
row_of verb.Times = record { word = codes "times"; operands = operand.Log ∷ []; takes_conflicts = false }
row_of verb.Replay = record { word = codes "replay"; operands = operand.Formula ∷ operand.Log ∷ operand.Times ∷ []; takes_conflicts = false }
row_of verb.Order = record { word = codes "order"; operands = operand.Log ∷ []; takes_conflicts = false }
row_of verb.Check = record { word = codes "check"; operands = operand.Formula ∷ operand.Log ∷ []; takes_conflicts = true }
row_of verb.Audit = record { word = codes "audit"; operands = operand.Formula ∷ operand.Log ∷ operand.Report ∷ []; takes_conflicts = true }
row_of verb.Trim = record { word = codes "trim"; operands = operand.Report ∷ []; takes_conflicts = false }
row_of verb.Json = record { word = codes "json"; operands = operand.Json ∷ []; takes_conflicts = false }
row_of verb.Tolerance = record { word = codes "tolerance"; operands = operand.Value ∷ operand.Max ∷ operand.Formula ∷ operand.Log ∷ []; takes_conflicts = true }
row_of verb.Span = record { word = codes "span"; operands = operand.Value ∷ operand.From ∷ operand.To ∷ operand.Formula ∷ operand.Log ∷ []; takes_conflicts = true }
row_of verb.Demo = record { word = codes "demo"; operands = operand.Seed ∷ []; takes_conflicts = false }

-- the first words
abbrev pub verbs : List Verb
verbs = verb.Times ∷ verb.Replay ∷ verb.Order ∷ verb.Check ∷ verb.Audit ∷ verb.Trim ∷ verb.Json ∷ verb.Tolerance ∷ verb.Span ∷ verb.Demo ∷ []

-- the first word that a word is, if it is one
abbrev pub verb_named : Word → Option Verb
verb_named word = find (λ v. bytes_eq (row_of v).word word) verbs

-- the name of each operand
abbrev pub name_of : Operand → Word
name_of operand.Formula = codes "formula"
name_of operand.Log = codes "log"
name_of operand.Times = codes "times"
name_of operand.Report = codes "report"
name_of operand.Json = codes "json"
name_of operand.Value = codes "value"
name_of operand.Max = codes "max"
name_of operand.From = codes "from"
name_of operand.To = codes "to"
name_of operand.Seed = codes "seed"

-- an operand is the name of a file, but for a truth value, a greatest widening, which is a number from 0 to 10^18, an event,
-- which is a number from 0 to 4,294,967,295, and a seed, which is a number from 0 to 18,446,744,073,709,551,615
abbrev pub kind_of : Operand → Kind
kind_of operand.Formula = kind.File
kind_of operand.Log = kind.File
kind_of operand.Times = kind.File
kind_of operand.Report = kind.File
kind_of operand.Json = kind.File
kind_of operand.Value = kind.Value
kind_of operand.Max = kind.Number (MAX_WIDENING + 1)
kind_of operand.From = kind.Number (MAX_EVENT + 1)
kind_of operand.To = kind.Number (MAX_EVENT + 1)
kind_of operand.Seed = kind.Number (MAX_SEED + 1)

-- the truth value that a word writes
abbrev pub value_of : Word → Option Bool
value_of word = if bytes_eq word (codes "true") then Some true else if bytes_eq word (codes "false") then Some false else None

-- a word of a kind: the name of a file is not empty, a truth value is `true` or `false`, and a number is below its limit
abbrev pub is_of_kind : Kind → Word → Bool
is_of_kind kind.File [] = false
is_of_kind kind.File (b ∷ bs) = true
is_of_kind kind.Value word = is_some (value_of word)
is_of_kind (kind.Number limit) word = is_some (number_below limit word)

-- the words are these operands: as many, and each of its kind
abbrev pub are_operands : List Operand → List Word → Bool
are_operands [] [] = true
are_operands [] (word ∷ words) = false
are_operands (o ∷ os) [] = false
are_operands (o ∷ os) (word ∷ words) = is_of_kind (kind_of o) word && are_operands os words
