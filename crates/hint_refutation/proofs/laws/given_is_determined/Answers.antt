use Rattle.hint_refutation.proofs.Hinted.{given-determined}
use Rattle.hint_refutation.proofs.laws.given_is_determined.Goals as goal

pub returns : goal.returns
returns g c = record { law = given-determined g.row.L.Denot }
