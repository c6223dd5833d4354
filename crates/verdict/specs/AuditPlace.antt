-- Which reports an audit accepts, and the part and the line at which it refuses one. Lines count from 1; 0 stands for a part as a whole.
use Rattle.std.specs.Prelude.{◌≡◌, ◌≢◌, ◌⊎◌, ℕ, List, length, Bool, true, false, Option, None, IfSome, ◌↔◌}
use Rattle.mt_model.specs.declared.step.Step.{Step}
use Rattle.mt_model.specs.Form.{Form}
use Rattle.mt_model.specs.Log.{Logged}
use Rattle.proof_log.specs.declared.line.Line.{Line}
use Rattle.proof_log.specs.Derivations.{Derives, FirstWrong, NoneWrong, Refutes}
use Rattle.proof_log.specs.Freshness.{learn_lines}
use Rattle.proof_check.specs.Cycles.{IsCycle, IsPlace}
use Rattle.report_text.specs.declared.report.Section.{Section}
use Rattle.report_text.specs.declared.report.Section.TheVariants as section
use Rattle.report_text.specs.declared.report.Report.{Report}
use Rattle.report_text.specs.declared.report.Report.TheVariants as report
use Rattle.report_text.specs.ReportText.{events_of}
use Rattle.verdict.specs.declared.answer.Audit.{Audit}
use Rattle.verdict.specs.declared.answer.Audit.TheVariants as audit
use Rattle.verdict.specs.declared.answer.Part.{Part}
use Rattle.verdict.specs.declared.answer.Part.TheVariants as part
use Rattle.verdict.specs.Right.{IsWitness}

-- the lines derive, so that none of their clauses is empty, and exactly as many as the conflicts are Learn lines; an audit doesn't
-- ask whether these are fresh
pub record DerivesAsMany (log : Logged) (f : Form) (v : Bool) (conflicts : ℕ) (lines : List Line) : Type 0 where
  pub derives : Derives log f v lines
  pub count : learn_lines lines ≡ conflicts

-- the section for a value shows what it says: its timing is a witness, its lines refute, or they derive with so many Learn lines
abbrev pub Shows : Logged → Form → ℕ → Bool → Section → Type 0
Shows log f conflicts v (section.Witness t) = IsWitness log f v t
Shows log f conflicts v (section.Refuted lines) = Refutes log f v lines
Shows log f conflicts v (section.Unknown lines) = DerivesAsMany log f v conflicts lines

-- line 0, where no line is wrong
pub record IsWhole (log : Logged) (f : Form) (v : Bool) (lines : List Line) (n : ℕ) : Type 0 where
  pub none_wrong : NoneWrong log f v lines
  pub whole : n ≡ 0

-- the first wrong line, and 0 where there is none
abbrev pub IsLinesPlace : Logged → Form → Bool → List Line → ℕ → Type 0
IsLinesPlace log f v lines n = FirstWrong log f v lines n ⊎ IsWhole log f v lines n

-- the line of a section at which it fails, if it does: 0 of a witness
abbrev pub IsSectionLine : Logged → Form → Bool → Section → ℕ → Type 0
IsSectionLine log f v (section.Witness t) n = n ≡ 0
IsSectionLine log f v (section.Refuted lines) n = IsLinesPlace log f v lines n
IsSectionLine log f v (section.Unknown lines) n = IsLinesPlace log f v lines n

-- the section doesn't show what it says, and this is the line at which it fails
pub record FailsAt (log : Logged) (f : Form) (conflicts : ℕ) (v : Bool) (s : Section) (n : ℕ) : Type 0 where
  pub fails : Shows log f conflicts v s → ⊥
  pub line : IsSectionLine log f v s n

-- no line where the section shows what it says, and else the line at which it fails
pub record IsJudgedAt (log : Logged) (f : Form) (conflicts : ℕ) (v : Bool) (s : Section) (line : Option ℕ) : Type 0 where
  pub shows : line ≡ None → Shows log f conflicts v s
  pub fails : IfSome line (FailsAt log f conflicts v s)

-- the section for true shows what it says, and the one for false fails at this line
pub record FailsLaterAt (log : Logged) (f : Form) (conflicts : ℕ) (on_true on_false : Section) (n : ℕ) : Type 0 where
  pub true_shows : Shows log f conflicts true on_true
  pub false_fails : FailsAt log f conflicts false on_false n

-- the steps are no negative cycle of bounds of the log, and this is the place that is named
pub record IsNoCycleAt (log : Logged) (steps : List Step) (n : ℕ) : Type 0 where
  pub no_cycle : IsCycle log steps → ⊥
  pub place : IsPlace log steps n

-- what the report says is refused at this part and line
abbrev pub IsRefusedAt : Logged → Form → ℕ → Report → Part → ℕ → Type 0
IsRefusedAt log f conflicts (report.Inconsistent events steps) part.Inconsistent n = IsNoCycleAt log steps n
IsRefusedAt log f conflicts (report.Inconsistent events steps) part.Events n = ⊥
IsRefusedAt log f conflicts (report.Inconsistent events steps) part.OnTrue n = ⊥
IsRefusedAt log f conflicts (report.Inconsistent events steps) part.OnFalse n = ⊥
IsRefusedAt log f conflicts (report.Verdicts events on_true on_false) part.OnTrue n = FailsAt log f conflicts true on_true n
IsRefusedAt log f conflicts (report.Verdicts events on_true on_false) part.OnFalse n = FailsLaterAt log f conflicts on_true on_false n
IsRefusedAt log f conflicts (report.Verdicts events on_true on_false) part.Events n = ⊥
IsRefusedAt log f conflicts (report.Verdicts events on_true on_false) part.Inconsistent n = ⊥

-- the report is about as many events as the log has rows, and what it says is refused at this part and line
pub record IsRefusedLater (log : Logged) (f : Form) (conflicts : ℕ) (r : Report) (p : Part) (n : ℕ) : Type 0 where
  pub events : events_of r ≡ length log.rows
  pub refused : IsRefusedAt log f conflicts r p n

-- an audit refuses the report first at this part and line
abbrev pub AuditPlace : Logged → Form → ℕ → Report → Part → ℕ → Type 0
AuditPlace log f conflicts r part.Events n = (events_of r ≢ length log.rows) × (n ≡ 0)
AuditPlace log f conflicts r part.Inconsistent n = IsRefusedLater log f conflicts r part.Inconsistent n
AuditPlace log f conflicts r part.OnTrue n = IsRefusedLater log f conflicts r part.OnTrue n
AuditPlace log f conflicts r part.OnFalse n = IsRefusedLater log f conflicts r part.OnFalse n

-- the steps are a negative cycle of bounds of the log; or both sections show what they say
abbrev pub ShowsAll : Logged → Form → ℕ → Report → Type 0
ShowsAll log f conflicts (report.Inconsistent events steps) = IsCycle log steps
ShowsAll log f conflicts (report.Verdicts events on_true on_false) = Shows log f conflicts true on_true × Shows log f conflicts false on_false

-- the report is about as many events as the log has rows, and shows what it says
pub record IsAccepted (log : Logged) (f : Form) (conflicts : ℕ) (r : Report) : Type 0 where
  pub events : events_of r ≡ length log.rows
  pub shown : ShowsAll log f conflicts r

-- what an audit says of the report: it is accepted, or refused at this part and line
abbrev pub IsAudit : Logged → Form → ℕ → Report → Audit → Type 0
IsAudit log f conflicts r audit.Accepted = IsAccepted log f conflicts r
IsAudit log f conflicts r (audit.Refused p n) = AuditPlace log f conflicts r p n

-- an audit is a refusal at a part and a line exactly where the report is refused first there
abbrev pub IsRefusedAtPlace : Logged → Form → ℕ → Report → Audit → Type 0
IsRefusedAtPlace log f conflicts r a = (p : Part) (line : ℕ) → (a ≡ audit.Refused p line) ↔ AuditPlace log f conflicts r p line
