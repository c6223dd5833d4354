use Rattle.question.proofs.SizesUnique.{sizes-unique}
use Rattle.question.proofs.laws.sizes_are_unique.Goals as goal

pub returns : goal.returns
returns c = record { unique = sizes-unique }
