-- The text of a trimmed report, from the outline of the report.
use Rattle.std.specs.Prelude.{◌≡◌, ℕ, List, Option, Some, None}
use Rattle.proof_trim.specs.declared.text_trimming.TrimmedText.{TrimmedText}
use Rattle.report_text.specs.declared.outline.SectionOutline.{SectionOutline}
use Rattle.report_text.specs.declared.part.Kind.{Kind}
use Rattle.report_text.specs.declared.part.Kind.TheVariants as kind
use Rattle.report_text.specs.declared.report.Report.{Report}
use Rattle.report_text.specs.declared.report.Report.TheVariants as report
use Rattle.report_text.specs.declared.report.Section.{Section}
use Rattle.report_text.specs.Outlines.{IsSectionOutline}
use Rattle.report_text.specs.ReportText.{entries_text, kind_of, report_text}
use Rattle.report_text.specs.Spelled.{IsSpelledSection}
use Rattle.skew_cli.specs.TrimOutcome.{IsReportTrim, IsSectionTrim}

-- the kind of a section of which these lines are left, or that stays as it is
abbrev pub kind_left : SectionOutline → Option TrimmedText → Kind
kind_left section None = section.kind
kind_left section (Some left) = kind.Refuted left.count

-- and the text of its lines
abbrev pub text_left : SectionOutline → Option TrimmedText → List ℕ
text_left section None = section.text.now
text_left section (Some left) = left.text.items

-- these are the kind and the text of a section after it was trimmed
pub record IsSectionLeft (events : ℕ) (outline : SectionOutline) (s : Section) (left : Option TrimmedText) : Type 0 where
  pub new : Section
  pub trim : IsSectionTrim s new
  pub spelled : IsSpelledSection events new
  pub kind : kind_of new ≡ kind_left outline left
  pub text : entries_text new ≡ text_left outline left

-- these are the outlines of the sections, which have a spelling in a report on so many events
pub record AreOutlined (events : ℕ) (true_outline false_outline : SectionOutline) (on_true on_false : Section) : Type 0 where
  pub outlines_true : IsSectionOutline true_outline on_true
  pub outlines_false : IsSectionOutline false_outline on_false
  pub true_spelled : IsSpelledSection events on_true
  pub false_spelled : IsSpelledSection events on_false

-- this holds of the report with the sections of two outlines
abbrev pub OfOutlined : ℕ → SectionOutline → SectionOutline → (Report → Type 0) → Type 0
OfOutlined events true_outline false_outline Holds = (s t : Section) → AreOutlined events true_outline false_outline s t → Holds (report.Verdicts events s t)

-- the bytes are the text of the trimmed report
pub record IsTrimText (r : Report) (bytes : List ℕ) : Type 0 where
  pub report : Report
  pub trim : IsReportTrim r report
  pub text : bytes ≡ report_text report
