use Rattle.log_read.proofs.ValidLogs.{logs-valid}
use Rattle.log_read.proofs.laws.logs_are_valid.Goals as goal

pub returns : goal.returns
returns c = logs-valid
