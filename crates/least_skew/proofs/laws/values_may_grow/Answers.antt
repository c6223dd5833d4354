use Rattle.least_skew.proofs.Sames.{values-may-grow}
use Rattle.least_skew.proofs.laws.values_may_grow.Goals as goal

pub returns : goal.returns
returns c = record { grow = values-may-grow }
