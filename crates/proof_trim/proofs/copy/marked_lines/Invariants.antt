use Rattle.proof_trim.proofs.Copying.{CopiedTo}
use Rattle.proof_trim.proofs.copy.marked_lines.Given as goal

abbrev pub invariant-loop-i : goal.invariant-loop-i
invariant-loop-i l = CopiedTo l.marks l.lines l.i l.places.items l.left
