use Rattle.mt_model.proofs.BrokenBounds.{unbroken}
use Rattle.mt_model.proofs.laws.unbroken_is_admissible.Goals as goal

pub returns : goal.returns
returns c = unbroken
