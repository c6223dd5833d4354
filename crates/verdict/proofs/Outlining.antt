-- The outline of the text of a report.
use Rattle.std.proofs.Common.{◌≡◌, ◌∙◌, sym, subst, ℕ, List}
use Rattle.report_text.specs.declared.outline.Outline.{Outline}
use Rattle.report_text.specs.declared.report.Report.{Report}
use Rattle.report_text.specs.Laws.{TextsTellApart}
use Rattle.report_text.specs.Outlines.{IsOutlineIn, IsOutlineOf}
use Rattle.report_text.specs.ReportText.{report_text}
use Rattle.report_text.specs.Spelled.{IsSpelled}

-- it is that of each report of this text
pub outlines_text : TextsTellApart → (bytes : List ℕ) (o : Outline) → IsOutlineIn bytes o → (r : Report) → IsSpelled r → report_text r ≡ bytes → IsOutlineOf o r
outlines_text apart bytes o found r spelled text =
    subst (IsOutlineOf o) (apart found.value r found.is.spelled spelled (found.is.text ∙ sym text)) found.outlined
