use Rattle.mt_model.proofs.Excluding.{bounds_only}
use Rattle.mt_model.proofs.laws.bounds_only_exclude.Goals as goal

pub returns : goal.returns
returns c = bounds_only
