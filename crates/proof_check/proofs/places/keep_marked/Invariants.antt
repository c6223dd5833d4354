use Rattle.proof_check.proofs.OnceLemmas.{IsPacked}
use Rattle.proof_check.proofs.places.keep_marked.Given as goal

abbrev pub invariant-loop-i : goal.invariant-loop-i
invariant-loop-i l = IsPacked l.fn.literals.items l.start l.marks l.i l.end l.literals.items
