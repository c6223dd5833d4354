use Rattle.hint_refutation.proofs.Hinted.{assumed-may_grow}
use Rattle.hint_refutation.proofs.laws.assumed_may_grow.Goals as goal

pub returns : goal.returns
returns g c = record { law = assumed-may_grow g.row.L.Denot }
