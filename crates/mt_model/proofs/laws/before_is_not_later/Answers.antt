use Rattle.mt_model.proofs.HappenedBefore.{not_later}
use Rattle.mt_model.proofs.laws.before_is_not_later.Goals as goal

pub returns : goal.returns
returns c = not_later
