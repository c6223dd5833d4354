-- What `audit` answers.
use Rattle.std.specs.Prelude.{◌≡◌, ◌⊎◌, ℕ, List, codes}
use Rattle.mt_model.specs.Form.{Form, form_of}
use Rattle.mt_model.specs.Log.{Logged}
use Rattle.mt_port.specs.Port.{Files}
use Rattle.report_text.specs.declared.report.Report.{Report}
use Rattle.verdict.specs.declared.answer.Part.{Part}
use Rattle.verdict.specs.declared.answer.Part.TheVariants as shown
use Rattle.verdict.specs.AuditPlace.{AuditPlace, IsAccepted}
use Rattle.verdict.specs.Claims.{Claims}
use Rattle.skew_answers.specs.declared.status.Status.{Status}
use Rattle.skew_answers.specs.declared.status.Status.TheVariants as status
use Rattle.skew_answers.specs.Texts.{line}
use Rattle.skew_words.specs.Words.{Word}
use Rattle.skew_cli.specs.declared.limits.TheConstants.{REPORT_LIMIT}
use Rattle.skew_commands.specs.declared.formula_and_log.Question.{Question}
use Rattle.skew_commands.specs.declared.refusal.Named.TheVariants as named
use Rattle.skew_commands.specs.declared.refusal.Refusal.TheVariants as refusal
use Rattle.skew_commands.specs.declared.refusal.ReportPart.{ReportPart}
use Rattle.skew_commands.specs.declared.refusal.ReportPart.TheVariants as name
use Rattle.skew_commands.specs.Refusals.{Refuses}
use Rattle.skew_best.specs.SizeTests.{OnSize}
use Rattle.skew_cli.specs.ReportTests.{OnReport}
use Rattle.skew_commands.specs.Tests.{OnFile, OnHosts, OnNodes, OnQuestion}

-- the report is accepted, and what it claims is so
pub record Accepted (conflicts : ℕ) (f : Form) (log : Logged) (r : Report) (out : List ℕ) (s : Status) : Type 0 where
  pub accepted : IsAccepted log f conflicts r
  pub claims : Claims log f r
  pub written : out ≡ line (codes "accepted")
  pub zero : s ≡ status.Zero

-- a part of a report, as a refusal has it
abbrev pub refused_part : Part → ReportPart
refused_part shown.Events = name.Events
refused_part shown.Inconsistent = name.Inconsistent
refused_part shown.OnTrue = name.OnTrue
refused_part shown.OnFalse = name.OnFalse

-- the report is refused at the first part and line that the audit names
pub record Rejected (conflicts : ℕ) (f : Form) (log : Logged) (r : Report) (out : List ℕ) (s : Status) : Type 0 where
  pub part : Part
  pub number : ℕ
  pub place : AuditPlace log f conflicts r part number
  pub refused : Refuses (refusal.Part (refused_part part) number) out s

-- with the report read and the size tested: it is accepted, or refused
abbrev pub AuditOfReport : ℕ → Form → Logged → Report → List ℕ → Status → Type 0
AuditOfReport conflicts f log r out s = Accepted conflicts f log r out s ⊎ Rejected conflicts f log r out s

-- with the report read: the size, and then whether it is accepted
abbrev pub AuditOfSize : ℕ → Form → Logged → Report → List ℕ → Status → Type 0
AuditOfSize conflicts f log r = OnSize f log (AuditOfReport conflicts f log r)

-- with the formula and the log read: the formula's hosts and its nodes, then the file of the report, and then the size
abbrev pub AuditOfLog : Files → ℕ → Word → List ℕ → Form → Logged → List ℕ → Status → Type 0
AuditOfLog files conflicts report text f log =
    OnHosts text f log (OnNodes f (OnFile files report REPORT_LIMIT named.Report (λ bytes. OnReport bytes (AuditOfSize conflicts f log))))

-- with the question read
abbrev pub AuditOfQuestion : Files → ℕ → Word → Question → List ℕ → Status → Type 0
AuditOfQuestion files conflicts report q = AuditOfLog files conflicts report q.text.items (form_of q.formula) q.log

-- what `audit` gives
abbrev pub AuditOutcome : Files → ℕ → Word → Word → Word → List ℕ → Status → Type 0
AuditOutcome files conflicts formula log report = OnQuestion files formula log (AuditOfLog files conflicts report)
