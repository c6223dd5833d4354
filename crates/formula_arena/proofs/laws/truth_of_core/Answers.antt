use Rattle.mt_model.specs.Positions.{positions_of}
use Rattle.mt_model.specs.Truth.{positions_in, rows_in}
use Rattle.formula_arena.proofs.CoreTruth.{truth-core}
use Rattle.formula_arena.proofs.laws.truth_of_core.Goals as goal

pub returns : goal.returns
returns c = record {
  at_position = λ log t i f. truth-core log t (positions_in (positions_of t)) f i;
  at_row = λ log t e f. truth-core log t (rows_in t) f e;
}
