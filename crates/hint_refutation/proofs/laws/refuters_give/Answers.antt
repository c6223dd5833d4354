use Rattle.hint_refutation.proofs.Hinted.{refuters-give}
use Rattle.hint_refutation.proofs.laws.refuters_give.Goals as goal

pub returns : goal.returns
returns g c = record { law = refuters-give g.row.L.Denot }
