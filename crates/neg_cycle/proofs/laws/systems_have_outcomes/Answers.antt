use Rattle.neg_cycle.proofs.OutcomeLemmas.{have_outcomes}
use Rattle.neg_cycle.proofs.laws.systems_have_outcomes.Goals as goal

pub returns : goal.returns
returns c = record { law = have_outcomes }
