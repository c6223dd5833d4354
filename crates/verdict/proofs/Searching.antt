-- What a search found of a value is a section.
use Rattle.std.proofs.Common.{refl, ℕ, ◌≤◌, Bool, List, length, ℤ}
use Rattle.mt_model.specs.Form.{Form}
use Rattle.mt_model.specs.Log.{IsLog, Logged}
use Rattle.proof_log.specs.declared.line.Line.{Line}
use Rattle.cdcl_core.specs.Values.{GivesValue, RefutesWithin, SpendsWithin}
use Rattle.report_text.specs.declared.report.Section.TheVariants as section
use Rattle.report_text.specs.Spelled.{IsSpelledSection}
use Rattle.report_text.proofs.RightLines.{lines_spelled}
use Rattle.verdict.specs.Right.{IsRightSection}
use Rattle.verdict.proofs.Spelling.{witness_spelled}

module _ (log : Logged) (f : Form) (budget : ℕ) (v : Bool) (valid : IsLog log) where
  pub timing_right : (t : List ℤ) → GivesValue log f v t → IsRightSection log f budget v (section.Witness t)
  timing_right t gives = record { admissible = gives.admissible; value = gives.value }

  pub timing_spelled : (t : List ℤ) → GivesValue log f v t → IsSpelledSection (length log.rows) (section.Witness t)
  timing_spelled t gives = witness_spelled log t (length log.rows) valid gives.admissible refl

  module _ (lines : List Line) (most : budget ≤ 1000000) where
    pub refuted_right : RefutesWithin log f v budget lines → IsRightSection log f budget v (section.Refuted lines)
    refuted_right found = record { refutes = found.refutes; few = found.few_lessons }

    pub refuted_spelled : RefutesWithin log f v budget lines → IsSpelledSection (length log.rows) (section.Refuted lines)
    refuted_spelled found = let refutes = found.refutes in lines_spelled log f v lines budget refutes.none_wrong most found.few

    pub spent_right : SpendsWithin log f v budget lines → IsRightSection log f budget v (section.Unknown lines)
    spent_right found = record { rules = found.rules; kept = found.kept; spends = found.spends }

    pub spent_spelled : SpendsWithin log f v budget lines → IsSpelledSection (length log.rows) (section.Unknown lines)
    spent_spelled found = let derives = found.spends.derives in lines_spelled log f v lines budget derives.none_wrong most found.few
