use Rattle.proof_trim.proofs.Kept.{keeps-refuting}
use Rattle.proof_trim.proofs.Refuting.{refuting-can}
use Rattle.proof_trim.proofs.laws.trims_keep_refuting.Goals as goal

pub returns : goal.returns
returns c = record { refutes = keeps-refuting; can = refuting-can }
