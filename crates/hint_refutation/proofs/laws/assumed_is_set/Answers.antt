use Rattle.hint_refutation.proofs.Hinted.{assumed-set}
use Rattle.hint_refutation.proofs.laws.assumed_is_set.Goals as goal

pub returns : goal.returns
returns g c = record { law = assumed-set g.row.L.Denot }
