-- Answers that are right have a spelling.
use Rattle.std.proofs.Common.{refl, arith, ℕ, ◌≤◌, Bool, List, length, Option, Some, None, ℤ}
use Rattle.mt_model.specs.Form.{Form}
use Rattle.mt_model.specs.Log.{IsLog, Logged}
use Rattle.skew_bounds.proofs.Near.{times-near}
use Rattle.proof_log.specs.declared.line.Line.{Line}
use Rattle.report_text.specs.declared.report.Section.TheVariants as section
use Rattle.report_text.specs.Spelled.{AreSpelledLines}
use Rattle.report_text.proofs.RightLines.{lines_spelled}
use Rattle.cdcl_core.specs.Values.{GivesValue, RefutesWithin, SpendsWithin}
use Rattle.least_skew.specs.declared.tolerance.Tolerance.{Tolerance}
use Rattle.least_skew.specs.declared.tolerance.Tolerance.TheVariants as tolerance
use Rattle.least_skew.specs.declared.widening.TheConstants.{MAX_WIDENING}
use Rattle.least_skew.specs.Least.{HasWrittenSkews, IsBelow, LeastRight, wide}
use Rattle.least_skew.proofs.ValidWidenings.{wide-valid}
use Rattle.verdict_span.specs.declared.greatest.Widest.{Widest}
use Rattle.verdict_span.specs.declared.greatest.Widest.TheVariants as widest
use Rattle.verdict_span.specs.Widest.{WidestRight, searched}
use Rattle.skew_best.specs.Spelled.{AreSpelledBelow, HasSpelling, IsSpelledTolerance, IsSpelledWidest}

module _ (log : Logged) (f : Form) (v : Bool) (budget : ℕ) where
  pub witness-spelled : (t : List ℤ) → IsLog log → GivesValue log f v t → HasSpelling (section.Witness t)
  witness-spelled t valid gives = (length t, record { full = refl; each = times-near log valid t gives.admissible })

  module _ (lines : List Line) (most : budget ≤ 1000000) where
    pub refuted-spelled : RefutesWithin log f v budget lines → AreSpelledLines lines
    refuted-spelled found = let refutes = found.refutes in lines_spelled log f v lines budget refutes.none_wrong most found.few

    pub spent-spelled : SpendsWithin log f v budget lines → AreSpelledLines lines
    spent-spelled found = let derives = found.spends.derives in lines_spelled log f v lines budget derives.none_wrong most found.few

module _ (log : Logged) (f : Form) (v : Bool) (max budget : ℕ) (valid : IsLog log) (written : HasWrittenSkews log) (range : max ≤ MAX_WIDENING) (most : budget ≤ 1000000) where
  below-spelled : (s : ℕ) (below : Option (List Line)) → IsBelow log f v budget s below → AreSpelledBelow below
  below-spelled s None is = tt
  below-spelled s (Some lines) is = refuted-spelled _ f v budget lines most is.1

  pub tolerance-spelled : (answer : Tolerance) → LeastRight log f v max budget answer → IsSpelledTolerance answer
  tolerance-spelled (tolerance.Least s times below) right =
      let within = right.within in
      (witness-spelled (wide s log) f v budget times (wide-valid log s valid written (omega (arith, within, range))) right.gives, below-spelled s below right.refuted)
  tolerance-spelled (tolerance.Never lines) right = (0, refuted-spelled (wide max log) f v budget lines most right.refuted)
  tolerance-spelled (tolerance.Inconsistent steps) right = tt
  tolerance-spelled (tolerance.Unknown s lines) right = (0, spent-spelled (wide s log) f v budget lines most right.spent)

pub widest-spelled : (log : Logged) (f : Form) (v : Bool) (e to budget : ℕ) → IsLog log → budget ≤ 1000000 → (answer : Widest) → WidestRight log f v e to budget answer → IsSpelledWidest answer
widest-spelled log f v e to budget valid most (widest.Greatest d times beyond) right = (witness-spelled log f v budget times valid right.gives, refuted-spelled _ f v budget beyond most right.refuted)
widest-spelled log f v e to budget valid most (widest.Never lines) right = (0, refuted-spelled log f v budget lines most right.refuted)
widest-spelled log f v e to budget valid most (widest.Inconsistent steps) right = tt
widest-spelled log f v e to budget valid most (widest.Unknown least lines) right = (0, spent-spelled (searched log f v e to least) f v budget lines most right)
