use Rattle.proof_check.proofs.LinesHold.{no_value}
use Rattle.proof_check.proofs.laws.refuted_is_no_value.Goals as goal

pub returns : goal.returns
returns c = no_value c.right_lines_hold.ensures
