use Rattle.hint_refutation.proofs.Carried.{words-carried}
use Rattle.hint_refutation.proofs.laws.words_are_carried.Goals as goal

pub returns : goal.returns
returns g c = record { law = words-carried g.row.L.Denot g.row.M.Denot }
