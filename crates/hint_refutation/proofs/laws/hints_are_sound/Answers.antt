use Rattle.hint_refutation.proofs.Sound.{hints-sound}
use Rattle.hint_refutation.proofs.laws.hints_are_sound.Goals as goal

pub returns : goal.returns
returns g c = record { law = hints-sound g.row.L.Denot }
