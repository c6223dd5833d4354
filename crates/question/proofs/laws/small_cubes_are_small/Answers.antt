use Rattle.question.proofs.SizeBounds.{small-cubes}
use Rattle.question.proofs.laws.small_cubes_are_small.Goals as goal

pub returns : goal.returns
returns c = record { small = small-cubes }
