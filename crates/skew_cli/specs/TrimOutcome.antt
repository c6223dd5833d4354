-- What `trim` answers.
use Rattle.std.specs.Prelude.{◌≡◌, ◌⊎◌, ℕ, List, []}
use Rattle.mt_port.specs.Port.{Files}
use Rattle.proof_log.specs.declared.line.Line.{Line}
use Rattle.proof_trim.specs.Needed.{IsFirstForward}
use Rattle.proof_trim.specs.Trimmed.{IsTrimOf}
use Rattle.report_text.specs.declared.report.Report.{Report}
use Rattle.report_text.specs.declared.report.Report.TheVariants as report
use Rattle.report_text.specs.declared.report.Section.{Section}
use Rattle.report_text.specs.declared.report.Section.TheVariants as section
use Rattle.report_text.specs.ReportText.{report_text}
use Rattle.skew_answers.specs.declared.status.Status.{Status}
use Rattle.skew_answers.specs.declared.status.Status.TheVariants as status
use Rattle.skew_words.specs.Words.{Word}
use Rattle.skew_commands.specs.declared.refusal.Named.TheVariants as named
use Rattle.skew_commands.specs.declared.refusal.Refusal.{Refusal}
use Rattle.skew_commands.specs.declared.refusal.Refusal.TheVariants as refusal
use Rattle.skew_commands.specs.declared.refusal.ReportPart.{ReportPart}
use Rattle.skew_commands.specs.declared.refusal.ReportPart.TheVariants as part
use Rattle.skew_commands.specs.Refusals.{Refuses}
use Rattle.skew_commands.specs.Tests.{OnFile}
use Rattle.skew_cli.specs.declared.limits.TheConstants.{REPORT_LIMIT}
use Rattle.skew_cli.specs.ReportTests.{OnReport}

-- a section after it was trimmed: a refuted one has the lines that its last one needs, and any other is as it was
abbrev pub IsSectionTrim : Section → Section → Type 0
IsSectionTrim (section.Witness t) s = s ≡ section.Witness t
IsSectionTrim (section.Refuted lines) s = (trimmed : List Line) × IsTrimOf lines trimmed × (s ≡ section.Refuted trimmed)
IsSectionTrim (section.Unknown lines) s = s ≡ section.Unknown lines

-- both sections are trimmed, and the number of events is as it was
pub record AreVerdictsTrim (events : ℕ) (on_true on_false : Section) (r : Report) : Type 0 where
  pub new_true : Section
  pub new_false : Section
  pub true_trimmed : IsSectionTrim on_true new_true
  pub false_trimmed : IsSectionTrim on_false new_false
  pub is : r ≡ report.Verdicts events new_true new_false

-- a report after it was trimmed: its sections are trimmed, and nothing else changes
abbrev pub IsReportTrim : Report → Report → Type 0
IsReportTrim (report.Inconsistent events steps) r = r ≡ report.Inconsistent events steps
IsReportTrim (report.Verdicts events on_true on_false) r = AreVerdictsTrim events on_true on_false r

-- lines can't be trimmed: there is none, told as line 0, or a hint of this line, and of no earlier one, names a line that doesn't come before it
abbrev pub AreUntrimmedAt : List Line → ℕ → Type 0
AreUntrimmedAt lines n = ((lines ≡ []) × (n ≡ 0)) ⊎ IsFirstForward lines n

-- a section can't be trimmed: it is refuted, and its lines can't
abbrev pub IsSectionUntrimmedAt : Section → ℕ → Type 0
IsSectionUntrimmedAt (section.Witness t) n = ⊥
IsSectionUntrimmedAt (section.Refuted lines) n = AreUntrimmedAt lines n
IsSectionUntrimmedAt (section.Unknown lines) n = ⊥

-- a section can be trimmed
abbrev pub CanTrimSection : Section → Type 0
CanTrimSection s = (n : ℕ) → IsSectionUntrimmedAt s n → ⊥

-- the section for false is the first that can't be trimmed
pub record IsFalseUntrimmedAt (on_true on_false : Section) (n : ℕ) : Type 0 where
  pub true_can : CanTrimSection on_true
  pub false_untrimmed : IsSectionUntrimmedAt on_false n

-- a report can't be trimmed, first in this section, at this line
abbrev pub IsUntrimmedAt : Report → ReportPart → ℕ → Type 0
IsUntrimmedAt (report.Verdicts events on_true on_false) part.OnTrue n = IsSectionUntrimmedAt on_true n
IsUntrimmedAt (report.Verdicts events on_true on_false) part.OnFalse n = IsFalseUntrimmedAt on_true on_false n
IsUntrimmedAt (report.Verdicts events on_true on_false) part.Events n = ⊥
IsUntrimmedAt (report.Verdicts events on_true on_false) part.Inconsistent n = ⊥
IsUntrimmedAt (report.Inconsistent events steps) p n = ⊥

-- a report can be trimmed
abbrev pub CanTrim : Report → Type 0
CanTrim r = (p : ReportPart) (n : ℕ) → IsUntrimmedAt r p n → ⊥

-- the report can be trimmed, and the answer is the text of the trimmed one
pub record Trimmed (r : Report) (out : List ℕ) (s : Status) : Type 0 where
  pub can : CanTrim r
  pub report : Report
  pub trim : IsReportTrim r report
  pub written : out ≡ report_text report
  pub zero : s ≡ status.Zero

-- the report can't be trimmed, and is refused at the first section that can't, and at the line there
pub record Untrimmed (r : Report) (out : List ℕ) (s : Status) : Type 0 where
  pub part : ReportPart
  pub number : ℕ
  pub place : IsUntrimmedAt r part number
  pub refused : Refuses (refusal.Part part number) out s

-- with the report read: it is trimmed, or refused
abbrev pub TrimOfReport : Report → List ℕ → Status → Type 0
TrimOfReport r out s = Trimmed r out s ⊎ Untrimmed r out s

-- what `trim` gives
abbrev pub TrimOutcome : Files → Word → List ℕ → Status → Type 0
TrimOutcome files name = OnFile files name REPORT_LIMIT named.Report (λ bytes. OnReport bytes TrimOfReport)

-- the refusal tells the line at which a section can't be trimmed
pub record TellsSection (p : ReportPart) (s : Section) (r : Refusal) : Type 0 where
  pub number : ℕ
  pub place : IsSectionUntrimmedAt s number
  pub told : r ≡ refusal.Part p number

-- the refusal tells the section and the line at which a report can't be trimmed
pub record TellsUntrimmed (whole : Report) (r : Refusal) : Type 0 where
  pub part : ReportPart
  pub number : ℕ
  pub place : IsUntrimmedAt whole part number
  pub told : r ≡ refusal.Part part number
