use Rattle.proof_check.specs.Standing.{AreNoGaps}
use Rattle.proof_check.proofs.refutation.Assumed.are_no_gaps.Given as goal

abbrev pub invariant-loop-x : goal.invariant-loop-x
invariant-loop-x l = AreNoGaps l.self l.k l.i l.x
