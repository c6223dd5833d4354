use Rattle.log_read.proofs.PlainLogs.{answer-plain}
use Rattle.log_read.proofs.reader.read_records.Goals as goal

pub returns-clause-plain : goal.returns-clause-plain
returns-clause-plain c = answer-plain c.as_slice.result.now c.log_in.result c.log_in.ensures
