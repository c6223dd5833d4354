use Rattle.hint_refutation.proofs.Propagated.{settled-closed}
use Rattle.hint_refutation.proofs.laws.settled_is_closed.Goals as goal

pub returns : goal.returns
returns g c = record { law = settled-closed g.row.L.Denot }
