-- Laws of the texts of reports.
use Rattle.std.specs.Prelude.{◌≡◌, ℕ, ◌+◌, List, Result, Ok, Err}
use Rattle.report_text.specs.declared.report.Report.{Report}
use Rattle.report_text.specs.declared.fault.ReportFault.{ReportFault}
use Rattle.report_text.specs.declared.fault.ReportFault.TheVariants as fault
use Rattle.report_text.specs.ReportOf.{IsCutShort, ReportOf, lines_in}
use Rattle.report_text.specs.ReportText.{report_text}
use Rattle.report_text.specs.Spelled.{IsSpelled}

-- bytes are at most one report, or have at most one first faulty line, and not both
abbrev pub BytesAreUnambiguous : Type 0
BytesAreUnambiguous = (bytes : List ℕ) (r s : Result Report ReportFault) → ReportOf bytes r → ReportOf bytes s → r ≡ s

-- the text of a report that has a spelling is that of this report
abbrev pub TextsReadBack : Type 0
TextsReadBack = (r : Report) → IsSpelled r → ReportOf (report_text r) (Ok r)

-- reports of one text are equal
abbrev pub TextsTellApart : Type 0
TextsTellApart = (r s : Report) → IsSpelled r → IsSpelled s → report_text r ≡ report_text s → r ≡ s

-- a report's text that ends too early is faulty at the line after its last newline
abbrev pub CutTextsAreFaulty : Type 0
CutTextsAreFaulty = (bytes : List ℕ) → IsCutShort bytes → ReportOf bytes (Err (fault.Syntax (lines_in bytes + 1)))
