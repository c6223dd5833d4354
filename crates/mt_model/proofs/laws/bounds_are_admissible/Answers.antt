use Rattle.mt_model.proofs.BoundLists.{bounds-admissible}
use Rattle.mt_model.proofs.laws.bounds_are_admissible.Goals as goal

pub returns : goal.returns
returns c = bounds-admissible
