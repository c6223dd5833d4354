use Rattle.demo_log.proofs.SeedLogs.{seeds-have-logs}
use Rattle.demo_log.proofs.laws.seeds_have_logs.Goals as goal

pub returns : goal.returns
returns c = record { logs = seeds-have-logs }
