-- What a report claims of the values that a formula can have.
use Rattle.std.specs.Prelude.{Bool, true, false}
use Rattle.mt_model.specs.Form.{Form}
use Rattle.mt_model.specs.Log.{Logged}
use Rattle.mt_model.specs.Truth.{IsValue}
use Rattle.report_text.specs.declared.report.Section.{Section}
use Rattle.report_text.specs.declared.report.Section.TheVariants as section
use Rattle.report_text.specs.declared.report.Report.{Report}
use Rattle.report_text.specs.declared.report.Report.TheVariants as report

-- a witness claims that the formula can have the value, and a refuted section that it can't; an unknown one claims nothing
abbrev pub SectionClaims : Logged → Form → Bool → Section → Type 0
SectionClaims log f v (section.Witness t) = IsValue log f v
SectionClaims log f v (section.Refuted lines) = IsValue log f v → ⊥
SectionClaims log f v (section.Unknown lines) = Unit {0}

-- what a report claims is so: an Inconsistent one, that the formula can have no value; else what its sections claim
abbrev pub Claims : Logged → Form → Report → Type 0
Claims log f (report.Inconsistent events steps) = (v : Bool) → IsValue log f v → ⊥
Claims log f (report.Verdicts events on_true on_false) = SectionClaims log f true on_true × SectionClaims log f false on_false
