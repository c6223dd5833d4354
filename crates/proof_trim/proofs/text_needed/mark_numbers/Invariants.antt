use Rattle.proof_trim.proofs.Marking.{NumbersMarkedTo}
use Rattle.proof_trim.proofs.text_needed.mark_numbers.Given as goal

abbrev pub invariant-loop-n : goal.invariant-loop-n
invariant-loop-n l = NumbersMarkedTo l.fn.marks l.named l.n-index l.marks
