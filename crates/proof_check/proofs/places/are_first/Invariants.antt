use Rattle.proof_check.proofs.OnceLemmas.{AreMarked}
use Rattle.proof_check.proofs.places.are_first.Given as goal

abbrev pub invariant-loop-place : goal.invariant-loop-place
invariant-loop-place l = AreMarked l.lits l.place l.first.items
