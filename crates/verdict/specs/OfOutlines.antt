-- What is said of the reports and the sections of outlines, of the bounds of a text, and of the lines for which a check answered.
use Rattle.std.specs.Prelude.{◌≡◌, ℕ, Bool, List, length, All, Option}
use Rattle.std.specs.List.{flat_map}
use Rattle.mt_model.specs.declared.step.Step.{Step}
use Rattle.mt_model.specs.Form.{Form}
use Rattle.mt_model.specs.Log.{Logged}
use Rattle.proof_log.specs.declared.line.Line.{Line}
use Rattle.proof_log.specs.Freshness.{learn_lines}
use Rattle.proof_check.specs.declared.check.Check.{Check}
use Rattle.proof_check.specs.declared.check.Check.TheVariants.{Derives}
use Rattle.proof_check.specs.declared.check.TextCheck.{TextCheck}
use Rattle.proof_check.specs.Answering.{IsAnswer}
use Rattle.report_text.specs.declared.outline.Outline.{Outline}
use Rattle.report_text.specs.declared.outline.SectionOutline.{SectionOutline}
use Rattle.report_text.specs.declared.report.Report.{Report}
use Rattle.report_text.specs.declared.report.Report.TheVariants as report
use Rattle.report_text.specs.declared.report.Section.{Section}
use Rattle.report_text.specs.Outlines.{IsOutlineOf, IsSectionOutline}
use Rattle.report_text.specs.ReportText.{bound_text}
use Rattle.report_text.specs.Spelled.{IsSpelled, IsSpelledBound, IsSpelledSection}
use Rattle.verdict.specs.declared.answer.Audit.{Audit}
use Rattle.verdict.specs.AuditPlace.{IsAudit, IsJudgedAt}

-- the steps are so many bounds, and this is their text
pub record AreBoundsOf (count : ℕ) (text : List ℕ) (steps : List Step) : Type 0 where
  pub full : length steps ≡ count
  pub each : All IsSpelledBound steps
  pub are : flat_map bound_text steps ≡ text

-- what an audit says of the report that these steps leave the log no timing, on as many events as the log has rows
abbrev pub IsWalkAudit : Logged → List Step → Audit → Type 0
IsWalkAudit log steps a = (f : Form) (budget events : ℕ) → events ≡ length log.rows → IsAudit log f budget (report.Inconsistent events steps) a

-- this holds of the report of an outline
abbrev pub OfOutline : Outline → (Report → Type 0) → Type 0
OfOutline o Holds = (r : Report) → IsOutlineOf o r → IsSpelled r → Holds r

-- so of the section of an outline, on so many events
abbrev pub OfSection : SectionOutline → ℕ → (Section → Type 0) → Type 0
OfSection o events Holds = (s : Section) → IsSectionOutline o s → IsSpelledSection events s → Holds s

-- so of the report with the sections of two outlines, on so many events
abbrev pub OfVerdicts : SectionOutline → SectionOutline → ℕ → (Report → Type 0) → Type 0
OfVerdicts on_true on_false rows Holds = (events : ℕ) (s t : Section) → events ≡ rows → IsSectionOutline on_true s → IsSectionOutline on_false t
    → IsSpelledSection rows s → IsSpelledSection rows t → Holds (report.Verdicts events s t)

-- no line where the section of an outline shows what it says, and else the line at which it fails
abbrev pub IsOutlineJudgedAt : Logged → Form → ℕ → Bool → SectionOutline → Option ℕ → Type 0
IsOutlineJudgedAt log f budget v o line = OfSection o (length log.rows) (λ s. IsJudgedAt log f budget v s line)

-- what an audit says of the report with the sections of two outlines
abbrev pub IsAuditOfVerdicts : Logged → Form → ℕ → SectionOutline → SectionOutline → Audit → Type 0
IsAuditOfVerdicts log f budget on_true on_false a = OfVerdicts on_true on_false (length log.rows) (λ r. IsAudit log f budget r a)

-- this holds of the lines for which a check answered so
abbrev pub OfAnswer : Check → (Logged → Form → Bool → List Line → Type 0) → Type 0
OfAnswer c Holds = (log : Logged) (f : Form) (v : Bool) (lines : List Line) → IsAnswer log f v lines c → Holds log f v lines

-- of lines that derive the Learn lines were counted
abbrev pub CountsLearnLines : TextCheck → List Line → Type 0
CountsLearnLines found lines = found.check ≡ Derives → found.learn_lines ≡ learn_lines lines
