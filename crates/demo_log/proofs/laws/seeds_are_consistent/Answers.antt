use Rattle.demo_log.proofs.SeedsConsistent.{seeds-consistent}
use Rattle.demo_log.proofs.laws.seeds_are_consistent.Goals as goal

pub returns : goal.returns
returns c = record { consistent = seeds-consistent }
