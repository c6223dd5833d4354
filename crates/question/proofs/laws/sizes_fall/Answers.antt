use Rattle.question.proofs.SizesFall.{sizes-fall}
use Rattle.question.proofs.laws.sizes_fall.Goals as goal

pub returns : goal.returns
returns c = record { fall = sizes-fall }
