use Rattle.proof_log.proofs.FreshLines.{refuted-not_spent}
use Rattle.proof_log.proofs.laws.refuted_by_rules_is_not_spent.Goals as goal

pub returns : goal.returns
returns c = refuted-not_spent
