use Rattle.proof_trim.proofs.Marking.{NeededAfter}
use Rattle.proof_trim.proofs.needed.needed.Given as goal

abbrev pub invariant-loop-i : goal.invariant-loop-i
invariant-loop-i l = NeededAfter l.lines l.i l.marks.items
