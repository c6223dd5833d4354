use Rattle.verdict.proofs.Claiming.{right_accepted}
use Rattle.verdict.proofs.laws.right_reports_are_accepted.Goals as goal

pub returns : goal.returns
returns c = record { accepted = right_accepted }
