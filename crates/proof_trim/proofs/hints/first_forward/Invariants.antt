use Rattle.proof_trim.specs.Needed.{LookBackTo}
use Rattle.proof_trim.proofs.hints.first_forward.Given as goal

abbrev pub invariant-loop-i : goal.invariant-loop-i
invariant-loop-i l = LookBackTo l.lines l.i
