use Rattle.hint_refutation.proofs.Hinted.{steps-forced}
use Rattle.hint_refutation.proofs.laws.steps_are_forced.Goals as goal

pub returns : goal.returns
returns g c = record { law = steps-forced g.row.L.Denot }
