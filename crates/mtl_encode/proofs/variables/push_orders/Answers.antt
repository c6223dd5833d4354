use Rattle.mtl_encode.proofs.Rankings.{pushed-more}
use Rattle.mtl_encode.proofs.variables.push_orders.Goals as goal

pub loop-order-preserved : goal.loop-order-preserved
loop-order-preserved c =
    rw (c.in_ok-push.ensures.items, c.loop-order.invariant, c.new.ensures.number) (pushed-more (λ r. r.var) c.args.vars.now.items c.args.orders.now c.loop-order.order-index _ c.loop-order-test.true)
