use Rattle.mt_model.proofs.PositionLemmas.{place-of_row, positions-rise, rises_at, row-at_position}
use Rattle.mt_model.specs.Positions.{positions_of}
use Rattle.mt_model.proofs.laws.positions_are_times.Goals as goal

pub returns : goal.returns
returns c = record {
  rising = λ t i j less within. rises_at (positions_of t) (positions-rise t) i j less within;
  of_row = λ t e within. place-of_row t e within;
  has_row = λ t i within. row-at_position t i within;
}
