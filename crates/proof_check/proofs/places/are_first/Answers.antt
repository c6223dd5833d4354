use Rattle.proof_check.proofs.OnceLemmas.{marked_more}
use Rattle.proof_check.proofs.places.are_first.Goals as goal

pub loop-place-preserved : goal.loop-place-preserved
loop-place-preserved c =
    rw c.in_ok-push.ensures.items (marked_more c.args.lits.now c.loop-place.place c.loop-place.first.items c.is_first.result c.loop-place-test.true c.is_first.ensures c.loop-place.invariant)
