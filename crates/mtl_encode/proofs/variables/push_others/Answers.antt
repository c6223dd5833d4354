use Rattle.mtl_encode.proofs.Rankings.{pushed-more}
use Rattle.mtl_encode.proofs.variables.push_others.Goals as goal

pub loop-other-preserved : goal.loop-other-preserved
loop-other-preserved c =
    rw (c.in_ok-push.ensures.items, c.loop-other.invariant, c.new.ensures.number) (pushed-more (λ r. r.var) c.args.vars.now.items c.args.others.now c.loop-other.other-index _ c.loop-other-test.true)
