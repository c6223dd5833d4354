use Rattle.least_skew.proofs.Widenings.{skews-may-grow}
use Rattle.least_skew.proofs.laws.skews_may_grow.Goals as goal

pub returns : goal.returns
returns c = record { grow = skews-may-grow }
