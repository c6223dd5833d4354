use Rattle.mt_model.proofs.Excluding.{finer}
use Rattle.mt_model.proofs.laws.finer_clocks_exclude_more.Goals as goal

pub returns : goal.returns
returns c = finer
