-- Laws of reports.
use Rattle.std.specs.Prelude.{◌≡◌, ◌↔◌, ◌≤◌, ℕ, Bool, true, false, List}
use Rattle.mt_model.specs.Form.{Form}
use Rattle.mt_model.specs.Log.{Logged, IsLog}
use Rattle.mt_model.specs.Truth.{IsValue}
use Rattle.proof_log.specs.declared.line.Line.{Line}
use Rattle.report_text.specs.declared.report.Section.{Section}
use Rattle.report_text.specs.declared.report.Report.{Report}
use Rattle.verdict.specs.AuditPlace.{IsAccepted, IsAudit}
use Rattle.verdict.specs.Claims.{Claims}
use Rattle.verdict.specs.declared.answer.Audit.{Audit}
use Rattle.cdcl_core.specs.Spent.{CanBeSpent}
use Rattle.verdict.specs.Right.{AreRightVerdicts, IsRight, IsSpent, is_unknown, is_witness}

-- what an accepted report claims is so, whoever wrote it
abbrev pub AcceptedReportsAreTrue : Type 0
AcceptedReportsAreTrue = (log : Logged) (f : Form) (conflicts : ℕ) (r : Report) → IsLog log → IsAccepted log f conflicts r → Claims log f r

-- an audit accepts each report that is right
abbrev pub RightReportsAreAccepted : Type 0
RightReportsAreAccepted = (log : Logged) (f : Form) (conflicts : ℕ) (r : Report) → IsRight log f conflicts r → IsAccepted log f conflicts r

-- what a right report claims is so
abbrev pub RightReportsAreTrue : Type 0
RightReportsAreTrue = (log : Logged) (f : Form) (conflicts : ℕ) (r : Report) → IsLog log → IsRight log f conflicts r → Claims log f r

-- where the section of a value isn't unknown, it is a witness exactly where the formula can have the value
abbrev pub IsExactSection : Logged → Form → Bool → Section → Type 0
IsExactSection log f v s = is_unknown s ≡ false → (is_witness s ≡ true) ↔ IsValue log f v

-- both sections of right verdicts are such
abbrev pub RightVerdictsAreExact : Type 0
RightVerdictsAreExact = (log : Logged) (f : Form) (conflicts : ℕ) (on_true on_false : Section) → IsLog log → AreRightVerdicts log f conflicts on_true on_false
    → IsExactSection log f true on_true × IsExactSection log f false on_false

-- a report has one audit at most
abbrev pub AuditsAreExact : Type 0
AuditsAreExact = (log : Logged) (f : Form) (conflicts : ℕ) (r : Report) (a b : Audit) → IsAudit log f conflicts r a → IsAudit log f conflicts r b → a ≡ b

-- where conflicts are spent on a value, it can be left unknown
abbrev pub SpentConflictsAreBounded : Type 0
SpentConflictsAreBounded = (log : Logged) (f : Form) (v : Bool) (conflicts : ℕ) (lines : List Line) → IsSpent log f v conflicts lines → 1 ≤ conflicts → CanBeSpent log f v conflicts
