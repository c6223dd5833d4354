use Rattle.std.proofs.Common.{length}
use Rattle.proof_check.proofs.guesses.move_all.Given as goal

abbrev pub decreases-each : goal.decreases-each
decreases-each l = length l.map.entries
