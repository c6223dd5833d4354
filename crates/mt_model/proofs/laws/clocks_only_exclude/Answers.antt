use Rattle.mt_model.proofs.Excluding.{clocks_only}
use Rattle.mt_model.proofs.laws.clocks_only_exclude.Goals as goal

pub returns : goal.returns
returns c = clocks_only
