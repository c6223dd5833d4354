use Rattle.proof_trim.proofs.Marking.{MarkedTo}
use Rattle.proof_trim.proofs.needed.mark_named.Given as goal

abbrev pub invariant-loop-hint : goal.invariant-loop-hint
invariant-loop-hint l = MarkedTo l.fn.marks l.hints l.hint-index l.marks
