-- The tests that a command makes of its files, each of which either refuses or goes on with what it found.
use Rattle.std.specs.Prelude.{ℕ, List, length, nat_lt, IsSomeAnd, MatchOption, MatchResult, Result, ℤ}
use Rattle.std.specs.Bool.{MatchBool}
use Rattle.mt_model.specs.Form.{Form}
use Rattle.mt_model.specs.Log.{Logged}
use Rattle.mt_model.specs.State.{unknown_host}
use Rattle.mt_port.specs.Port.{Files, file_of}
use Rattle.formula_arena.specs.Nodes.{nodes_of}
use Rattle.formula_arena.specs.declared.arena.TheConstants.{MAX_NODES}
use Rattle.log_read.specs.LogOf.{log_of}
use Rattle.mtl_parse.specs.declared.fault.FormulaFault.{FormulaFault}
use Rattle.mtl_parse.specs.FormulaOf.{FormulaOf}
use Rattle.mtl_parse.specs.Places.{host_byte}
use Rattle.times_read.specs.declared.fault.TimesFault.{TimesFault}
use Rattle.times_read.specs.declared.fault.TimesFault.TheVariants as times
use Rattle.times_read.specs.TimesOf.{times_of}
use Rattle.skew_answers.specs.declared.status.Status.{Status}
use Rattle.skew_words.specs.Words.{Word}
use Rattle.skew_commands.specs.declared.limits.TheConstants.{FORMULA_LIMIT, LOG_LIMIT}
use Rattle.skew_commands.specs.declared.refusal.Named.{Named}
use Rattle.skew_commands.specs.declared.refusal.Named.TheVariants as named
use Rattle.skew_commands.specs.declared.refusal.Refusal.TheVariants as refusal
use Rattle.skew_commands.specs.Refusals.{Refuses}

-- a file of a name: refused above its limit
abbrev pub OnFile : Files → Word → ℕ → Named → (List ℕ → List ℕ → Status → Type 0) → List ℕ → Status → Type 0
OnFile files name limit named next out s =
    IsSomeAnd (file_of files name) (λ file. MatchBool (nat_lt limit (length file)) (Refuses (refusal.Length named) out s) (next file out s))

-- a formula's text: refused at its fault
abbrev pub OnFormula : List ℕ → (Form → List ℕ → Status → Type 0) → List ℕ → Status → Type 0
OnFormula text next out s = (reading : Result Form FormulaFault) × FormulaOf text reading × MatchResult reading (λ f. next f out s) (λ fault. Refuses (refusal.Formula fault) out s)

-- a log's file: refused at its fault
abbrev pub OnLog : List ℕ → (Logged → List ℕ → Status → Type 0) → List ℕ → Status → Type 0
OnLog file next out s = MatchResult (log_of file) (λ log. next log out s) (λ fault. Refuses (refusal.Log fault) out s)

-- the hosts of a formula: refused at the first one that is not in the log, at the byte of its word
abbrev pub OnHosts : List ℕ → Form → Logged → (List ℕ → Status → Type 0) → List ℕ → Status → Type 0
OnHosts text f log next out s =
    MatchOption (unknown_host log f) (next out s) (λ number. IsSomeAnd (host_byte text number) (λ byte. Refuses (refusal.UnknownHost byte) out s))

-- the distinct nodes of a formula: refused where there are more than the limit
abbrev pub OnNodes : Form → (List ℕ → Status → Type 0) → List ℕ → Status → Type 0
OnNodes f next out s = MatchBool (nat_lt MAX_NODES (length (nodes_of f))) (Refuses refusal.Nodes out s) (next out s)

-- the refusal of a fault of a times file
abbrev pub RefusesTimes : TimesFault → List ℕ → Status → Type 0
RefusesTimes (times.Number number) = Refuses (refusal.TimesNumber number)
RefusesTimes (times.Count number) = Refuses (refusal.TimesCount number)
RefusesTimes times.Memory = λ out s. ⊥

-- a file of times for the rows of a log: refused at its fault
abbrev pub OnTimes : List ℕ → Logged → (List ℤ → List ℕ → Status → Type 0) → List ℕ → Status → Type 0
OnTimes file log next out s = MatchResult (times_of (length log.rows) file) (λ t. next t out s) (λ fault. RefusesTimes fault out s)

-- a formula and a log: the file and the text of the formula, and then those of the log
abbrev pub OnQuestion : Files → Word → Word → (List ℕ → Form → Logged → List ℕ → Status → Type 0) → List ℕ → Status → Type 0
OnQuestion files formula log next =
    OnFile files formula FORMULA_LIMIT named.Formula (λ text. OnFormula text (λ f. OnFile files log LOG_LIMIT named.Log (λ file. OnLog file (next text f))))
