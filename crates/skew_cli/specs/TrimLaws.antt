-- That an audit accepts a trimmed report where it accepts the report.
use Rattle.std.specs.Prelude.{ℕ}
use Rattle.mt_model.specs.Form.{Form}
use Rattle.mt_model.specs.Log.{Logged}
use Rattle.report_text.specs.declared.report.Report.{Report}
use Rattle.verdict.specs.declared.answer.Part.{Part}
use Rattle.verdict.specs.AuditPlace.{AuditPlace, IsAccepted}
use Rattle.skew_cli.specs.TrimOutcome.{CanTrim, IsReportTrim}

-- an audit accepts the report, and names no place of it
pub record HasNoPlace (log : Logged) (f : Form) (conflicts : ℕ) (r : Report) : Type 0 where
  pub accepted : IsAccepted log f conflicts r
  pub none : (p : Part) (n : ℕ) → AuditPlace log f conflicts r p n → ⊥

-- what an audit accepts, it accepts trimmed, with the same formula, log and number of conflicts
abbrev pub TrimsAreAccepted : Type 0
TrimsAreAccepted = (log : Logged) (f : Form) (conflicts : ℕ) (r trimmed : Report) → IsReportTrim r trimmed → IsAccepted log f conflicts r → HasNoPlace log f conflicts trimmed

-- what an audit accepts can be trimmed
abbrev pub AcceptedCanTrim : Type 0
AcceptedCanTrim = (log : Logged) (f : Form) (conflicts : ℕ) (r : Report) → IsAccepted log f conflicts r → CanTrim r
