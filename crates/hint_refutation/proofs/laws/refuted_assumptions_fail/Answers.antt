use Rattle.hint_refutation.proofs.Sound.{assumptions_fail}
use Rattle.hint_refutation.proofs.laws.refuted_assumptions_fail.Goals as goal

pub returns : goal.returns
returns g c = record { law = assumptions_fail g.row.L.Denot }
