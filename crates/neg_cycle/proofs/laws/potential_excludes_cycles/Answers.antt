use Rattle.neg_cycle.proofs.LawLemmas.{excludes_cycles}
use Rattle.neg_cycle.proofs.laws.potential_excludes_cycles.Goals as goal

pub returns : goal.returns
returns c = record { law = excludes_cycles }
