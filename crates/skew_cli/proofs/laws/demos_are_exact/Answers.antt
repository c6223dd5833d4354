use Rattle.demo_log.proofs.SeedLogs.{seeds-have-logs}
use Rattle.demo_log.proofs.SeedsConsistent.{seeds-consistent}
use Rattle.skew_cli.proofs.DemosExact.{demos-exact, demos-judged}
use Rattle.skew_cli.proofs.laws.demos_are_exact.Goals as goal

pub returns : goal.returns
returns c = record { logs = seeds-have-logs; consistent = seeds-consistent; judged = demos-judged; exact = demos-exact }
