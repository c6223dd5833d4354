use Rattle.std.proofs.Common.{length}
use Rattle.proof_trim.proofs.NextNamedLine.{IsScannedTo}
use Rattle.proof_trim.proofs.naming.next_named.Given as goal

abbrev pub invariant-loop-word : goal.invariant-loop-word
invariant-loop-word l = IsScannedTo l.words l.rest

abbrev pub decreases-loop-word : goal.decreases-loop-word
decreases-loop-word l = length l.rest
