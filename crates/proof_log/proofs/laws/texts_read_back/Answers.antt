use Rattle.proof_log.proofs.Texts.{read-back}
use Rattle.proof_log.proofs.laws.texts_read_back.Goals as goal

pub returns : goal.returns
returns c = read-back
