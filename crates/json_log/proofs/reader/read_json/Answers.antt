use Rattle.log_read.proofs.PlainLogs.{records-plain}
use Rattle.json_log.proofs.reader.read_json.Goals as goal

pub returns-in-Ok-clause-plain : goal.returns-in-Ok-clause-plain
returns-in-Ok-clause-plain c = records-plain c.in_ok-records.records c.in-Ok.log c.in-Ok.ensures.answer
