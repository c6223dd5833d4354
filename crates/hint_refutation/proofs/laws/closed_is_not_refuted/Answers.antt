use Rattle.hint_refutation.proofs.Propagated.{closed-not_refuted}
use Rattle.hint_refutation.proofs.laws.closed_is_not_refuted.Goals as goal

pub returns : goal.returns
returns g c = record { law = closed-not_refuted g.row.L.Denot }
