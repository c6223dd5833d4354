use Rattle.hint_refutation.proofs.Propagated.{whole-closed}
use Rattle.hint_refutation.proofs.laws.whole_reached_is_closed.Goals as goal

pub returns : goal.returns
returns g c = record { law = whole-closed g.row.L.Denot }
