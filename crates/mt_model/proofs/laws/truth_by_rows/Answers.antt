use Rattle.mt_model.proofs.PositionLemmas.{truth_of-first, truth_of-place}
use Rattle.mt_model.proofs.laws.truth_by_rows.Goals as goal

pub returns : goal.returns
returns c = record {
  at_row = λ log t e f within. truth_of-place t log f e within;
  at_first = λ log t e f within first. truth_of-first t log f e within first;
}
