use Rattle.proof_log.proofs.Texts.{read-alike}
use Rattle.proof_log.proofs.laws.steps_read_alike.Goals as goal

pub returns : goal.returns
returns c = read-alike
