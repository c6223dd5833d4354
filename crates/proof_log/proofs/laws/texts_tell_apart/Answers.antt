use Rattle.proof_log.proofs.Texts.{tell-apart}
use Rattle.proof_log.proofs.laws.texts_tell_apart.Goals as goal

pub returns : goal.returns
returns c = tell-apart
