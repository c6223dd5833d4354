use Rattle.hint_refutation.proofs.Propagated.{closed-has_reached}
use Rattle.hint_refutation.proofs.laws.closed_has_reached.Goals as goal

pub returns : goal.returns
returns g c = record { law = closed-has_reached g.row.L.Denot }
