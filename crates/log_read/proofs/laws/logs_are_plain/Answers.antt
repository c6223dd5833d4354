use Rattle.log_read.proofs.PlainLogs.{logs-plain}
use Rattle.log_read.proofs.laws.logs_are_plain.Goals as goal

pub returns : goal.returns
returns c = logs-plain
