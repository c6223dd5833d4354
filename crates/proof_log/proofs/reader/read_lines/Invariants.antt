use Rattle.std.proofs.Common.{length}
use Rattle.proof_log.proofs.ReadingLines.{AreReadUpTo}
use Rattle.proof_log.proofs.reader.read_lines.Given as goal

abbrev pub invariant-loop-rest : goal.invariant-loop-rest
invariant-loop-rest l = AreReadUpTo l.bytes l.lines l.rest

abbrev pub decreases-loop-rest : goal.decreases-loop-rest
decreases-loop-rest l = length l.rest
