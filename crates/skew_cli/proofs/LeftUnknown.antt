-- What is spent where a section of a right report is unknown.
use Rattle.std.proofs.Common.{ℕ, Bool, true, false, List}
use Rattle.std.specs.Prelude.{IsTrue}
use Rattle.mt_model.specs.Form.{Form}
use Rattle.mt_model.specs.Log.{Logged}
use Rattle.proof_log.specs.declared.line.Line.{Line}
use Rattle.report_text.specs.declared.report.Section.{Section}
use Rattle.report_text.specs.declared.report.Section.TheVariants as section
use Rattle.report_text.specs.declared.report.Report.{Report}
use Rattle.report_text.specs.declared.report.Report.TheVariants as report
use Rattle.verdict.specs.Right.{IsRightSection, IsSpent, SaysRight, is_unknown}
use Rattle.skew_cli.specs.Laws.{leaves_unknown}

module _ (log : Logged) (f : Form) (conflicts : ℕ) where
  in-section : (v : Bool) (s : Section) → IsRightSection log f conflicts v s → IsTrue (is_unknown s) → (lines : List Line) × IsSpent log f v conflicts lines
  in-section v (section.Witness t) right unknown = let never : ⊥ = cc in absurd never
  in-section v (section.Refuted lines) right unknown = let never : ⊥ = cc in absurd never
  in-section v (section.Unknown lines) right unknown = (lines, right)

  pub in-report : (r : Report) (v : Bool) → SaysRight log f conflicts r → IsTrue (leaves_unknown r v) → (lines : List Line) × IsSpent log f v conflicts lines
  in-report (report.Inconsistent events steps) v says unknown = let never : ⊥ = cc in absurd never
  in-report (report.Verdicts events on_true on_false) true says unknown = in-section true on_true says.true_right unknown
  in-report (report.Verdicts events on_true on_false) false says unknown = in-section false on_false says.false_right unknown
