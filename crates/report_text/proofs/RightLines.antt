-- Lines that are right have a spelling.
use Rattle.std.proofs.Common.{arith, ℕ, suc, ◌*◌, ◌≤◌, Bool, List, length}
use Rattle.std.proofs.lemmas.Option.{get_or_from_slice_get}
use Rattle.mt_model.specs.Form.{Form}
use Rattle.mt_model.specs.Log.{Logged}
use Rattle.proof_log.specs.declared.line.Line.{Line}
use Rattle.proof_log.specs.Derivations.{NoneWrong}
use Rattle.report_text.specs.Spelled.{AreSpelledLines}

-- lines of which none is wrong have a spelling each
pub lines_spelled : (log : Logged) (f : Form) (v : Bool) (lines : List Line) (budget : ℕ) → NoneWrong log f v lines → budget ≤ 1000000 → length lines ≤ 2 * budget → AreSpelledLines lines
lines_spelled log f v lines budget none most few = record {
  count = omega (arith, most, few);
  each = λ k d below.
      let right = (none (suc k) (omega arith) (omega (arith, below))).right in
      let there = get_or_from_slice_get lines k right.line d right.stands in
      rw there right.spelled;
}
