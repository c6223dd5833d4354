use Rattle.skew_cli.proofs.AcceptedAgain.{accepted-true}
use Rattle.skew_cli.proofs.laws.accepted_files_are_true.Goals as goal

pub returns : goal.returns
returns c = accepted-true
