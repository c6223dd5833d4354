-- What the statuses of `check` and `audit` say of the values that a formula can have, and that `audit` accepts what `check` wrote.
use Rattle.std.specs.Prelude.{◌≡◌, ◌↔◌, ◌≤◌, ◌<◌, ℕ, Bool, true, false, IsTrue, List, length, codes, Some, Ok, ℤ}
use Rattle.mt_model.specs.Form.{Form}
use Rattle.mt_model.specs.Log.{Logged}
use Rattle.mt_model.specs.Timing.{Admissible}
use Rattle.mt_model.specs.Truth.{IsValue}
use Rattle.mt_port.specs.Port.{Files, file_of}
use Rattle.report_text.specs.declared.report.Report.{Report}
use Rattle.report_text.specs.declared.report.Report.TheVariants as report
use Rattle.report_text.specs.declared.report.Section.TheVariants as section
use Rattle.report_text.specs.ReportOf.{ReportOf}
use Rattle.verdict.specs.Claims.{Claims}
use Rattle.question.specs.Faults.{IsJudged}
use Rattle.verdict.specs.Right.{is_unknown, is_witness}
use Rattle.cdcl_core.specs.Spent.{CanBeSpent}
use Rattle.skew_answers.specs.declared.status.Status.{Status}
use Rattle.skew_answers.specs.declared.status.Status.TheVariants as status
use Rattle.skew_answers.specs.Statuses.{IsVerdict}
use Rattle.skew_answers.specs.Texts.{times_text}
use Rattle.skew_words.specs.Words.{Word}
use Rattle.skew_cli.specs.declared.limits.TheConstants.{REPORT_LIMIT}
use Rattle.skew_commands.specs.declared.refusal.Named.TheVariants as named
use Rattle.skew_commands.specs.declared.refusal.Refusal.TheVariants as refusal
use Rattle.skew_cli.specs.AuditOutcome.{AuditOutcome}
use Rattle.skew_cli.specs.CheckOutcome.{CheckOutcome, Checked, is_undecided}
use Rattle.skew_cli.specs.Outcome.{Says}
use Rattle.skew_commands.specs.Reads.{IsQuestion}
use Rattle.skew_commands.specs.Refusals.{Refuses}
use Rattle.skew_commands.specs.ReplayOutcome.{ReplayOutcome, value_status, value_text}

-- no section of the report is unknown, and this holds of the value true and of the value false
pub record Decides (r : Report) (OnTrue OnFalse : Type 0) : Type 0 where
  pub decided : is_undecided r ≡ false
  pub on_true : OnTrue
  pub on_false : OnFalse

-- the formula cannot have the value
abbrev pub IsNoValue : Logged → Form → Bool → Type 0
IsNoValue log f v = IsValue log f v → ⊥

-- which status a report has: Zero where true is the one value that the formula can have, One where false is, Two where both are, each where no section is unknown; Inconsistent where no timing is admissible; and Unknown where a section is unknown
pub record IsStatusOfValues (log : Logged) (f : Form) (r : Report) (s : Status) : Type 0 where
  pub zero : (s ≡ status.Zero) ↔ Decides r (IsValue log f true) (IsNoValue log f false)
  pub one : (s ≡ status.One) ↔ Decides r (IsNoValue log f true) (IsValue log f false)
  pub two : (s ≡ status.Two) ↔ Decides r (IsValue log f true) (IsValue log f false)
  pub inconsistent : (s ≡ status.Inconsistent) ↔ ((t : List ℤ) → Admissible log t → ⊥)
  pub unknown : (s ≡ status.Unknown) ↔ IsTrue (is_undecided r)

-- a formula and a log were read from the files of these names, and the formula is judged of the log: its hosts are in the log, and its nodes and the size are within their limits
pub record IsJudgedQuestion (files : Files) (formula log : Word) (text : List ℕ) (f : Form) (l : Logged) : Type 0 where
  pub question : IsQuestion files formula log text f l
  pub judged : IsJudged l f

-- the report has a witness for the value
abbrev pub has_witness : Report → Bool → Bool
has_witness (report.Inconsistent events steps) v = false
has_witness (report.Verdicts events on_true on_false) true = is_witness on_true
has_witness (report.Verdicts events on_true on_false) false = is_witness on_false

-- where no section is unknown, the report has a witness for exactly the values that the formula can have
abbrev pub HasExactWitnesses : Logged → Form → Report → Type 0
HasExactWitnesses log f r = is_undecided r ≡ false → (v : Bool) → IsTrue (has_witness r v) ↔ IsValue log f v

-- the answer is the text of a right report; its witnesses and its status are those of the values that the formula can have
pub record IsExactAnswer (conflicts : ℕ) (f : Form) (log : Logged) (out : List ℕ) (s : Status) : Type 0 where
  pub checked : Checked conflicts f log out s
  pub witnesses : HasExactWitnesses log f checked.report
  pub status : IsStatusOfValues log f checked.report s

-- of a formula and a log that were read, where the formula is judged of the log, `check` answers which values it can have, and nothing else
abbrev pub ChecksAreExact : Type 0
ChecksAreExact =
    (files : Files) (conflicts : ℕ) (formula log : Word) (text : List ℕ) (f : Form) (l : Logged) (out : List ℕ) (s : Status) → IsJudgedQuestion files formula log text f l → CheckOutcome files conflicts formula log out s → IsExactAnswer conflicts f l out s

-- a status of `check` that is no refusal comes only of a formula and a log that were read, where the formula is judged of the log
abbrev pub ChecksAreJudged : Type 0
ChecksAreJudged =
    (files : Files) (conflicts : ℕ) (formula log : Word) (out : List ℕ) (s : Status) → CheckOutcome files conflicts formula log out s → IsVerdict s → (text : List ℕ) × (f : Form) × (l : Logged) × IsJudgedQuestion files formula log text f l

-- what the report of a name claims of the formula and the log of these names is so
pub record IsTrueReport (files : Files) (formula log name : Word) : Type 0 where
  pub text : List ℕ
  pub form : Form
  pub logged : Logged
  pub question : IsQuestion files formula log text form logged
  pub bytes : List ℕ
  pub held : file_of files name ≡ Some bytes
  pub report : Report
  pub read : ReportOf bytes (Ok report)
  pub claims : Claims logged form report

-- `audit` answers Zero only for a report whose claims are true of the formula and the log, whoever wrote it
abbrev pub AcceptedFilesAreTrue : Type 0
AcceptedFilesAreTrue = (files : Files) (conflicts : ℕ) (formula log name : Word) (out : List ℕ) → AuditOutcome files conflicts formula log name out status.Zero → IsTrueReport files formula log name

-- what `audit` answers for a report that `check` wrote: it is accepted, unless it is longer than a report file may be
pub record IsAcceptedAgain (written out : List ℕ) (s : Status) : Type 0 where
  pub accepted : length written ≤ REPORT_LIMIT → Says (codes "accepted") status.Zero out s
  pub too_long : REPORT_LIMIT < length written → Refuses (refusal.Length named.Report) out s

-- these files hold the formula and the log of the others, and what `check` wrote
pub record HoldsWritten (files others : Files) (formula log name : Word) (written : List ℕ) : Type 0 where
  pub formula_same : file_of others formula ≡ file_of files formula
  pub log_same : file_of others log ≡ file_of files log
  pub report : file_of others name ≡ Some written

-- what `check` found and wrote, `audit` accepts with the same formula, log and number of conflicts
abbrev pub ChecksAreAccepted : Type 0
ChecksAreAccepted =
    (files others : Files) (conflicts : ℕ) (formula log name : Word) (written out : List ℕ) (found s : Status) → CheckOutcome files conflicts formula log written found → IsVerdict found
    → HoldsWritten files others formula log name written → AuditOutcome others conflicts formula log name out s → IsAcceptedAgain written out s

-- the section of the report for the value is unknown
abbrev pub leaves_unknown : Report → Bool → Bool
leaves_unknown (report.Inconsistent events steps) v = false
leaves_unknown (report.Verdicts events on_true on_false) true = is_unknown on_true
leaves_unknown (report.Verdicts events on_true on_false) false = is_unknown on_false

-- what `check` leaves unknown, the rules of the log, the formula and the value allow to be left unknown after so many conflicts
abbrev pub UnknownIsBounded : Type 0
UnknownIsBounded =
    (conflicts : ℕ) (f : Form) (log : Logged) (out : List ℕ) (s : Status) (checked : Checked conflicts f log out s) (v : Bool) → 1 ≤ conflicts → IsTrue (leaves_unknown checked.report v) → CanBeSpent log f v conflicts

-- the report has this timing as its witness for the value
abbrev pub IsWitnessOf : Report → Bool → List ℤ → Type 0
IsWitnessOf (report.Inconsistent events steps) v t = ⊥
IsWitnessOf (report.Verdicts events on_true on_false) true t = on_true ≡ section.Witness t
IsWitnessOf (report.Verdicts events on_true on_false) false t = on_false ≡ section.Witness t

-- with the timing that `check` gave for a value, written with a number on each line, `replay` answers the value
abbrev pub WitnessesAreReplayed : Type 0
WitnessesAreReplayed =
    (files : Files) (conflicts : ℕ) (formula log name : Word) (text : List ℕ) (f : Form) (l : Logged) (written out : List ℕ) (found s : Status) (checked : Checked conflicts f l written found) (v : Bool) (t : List ℤ)
    → IsJudgedQuestion files formula log text f l → IsWitnessOf checked.report v t → file_of files name ≡ Some (times_text t) → ReplayOutcome files formula log name out s → Says (value_text v) (value_status v) out s
