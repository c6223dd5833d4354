use Rattle.proof_check.proofs.LinesHold.{lines_hold}
use Rattle.proof_check.proofs.laws.right_lines_hold.Goals as goal

pub returns : goal.returns
returns c = lines_hold c.rules_hold.ensures c.hints_are_sound.ensures.law
