use Rattle.proof_log.proofs.ReadingLines.{one-reading}
use Rattle.proof_log.proofs.laws.bytes_are_unambiguous.Goals as goal

pub returns : goal.returns
returns c = one-reading
