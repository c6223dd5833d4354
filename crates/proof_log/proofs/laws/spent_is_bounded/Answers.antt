use Rattle.proof_log.proofs.FreshLines.{spent-bounded}
use Rattle.proof_log.proofs.laws.spent_is_bounded.Goals as goal

pub returns : goal.returns
returns c = spent-bounded
