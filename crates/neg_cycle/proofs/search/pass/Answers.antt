use Rattle.std.proofs.Common.{arith}
use Rattle.neg_cycle.proofs.LabelLemmas.{all_met}
use Rattle.neg_cycle.proofs.search.pass.Goals as goal
use Rattle.neg_cycle.proofs.search.pass.Goals.{then-raised, else-raised}

pub returns-clause-did : goal.returns-clause-did
returns-clause-did c = elim c.if-raised.branch [
  | then-raised w ↦ rw w.result-is (c.loop-place.invariant.fell w.if-raised.true)
  | else-raised w ↦
      rw w.result-is (all_met _ _ (λ p below. c.loop-place.invariant.met w.if-raised.false p (omega arith)))
]
