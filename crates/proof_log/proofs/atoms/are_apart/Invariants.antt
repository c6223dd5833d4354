use Rattle.proof_log.proofs.AtomsApart.{AreNextApart}
use Rattle.proof_log.proofs.atoms.are_apart.Given as goal

abbrev pub invariant-loop-next : goal.invariant-loop-next
invariant-loop-next l = AreNextApart l.atoms l.next
