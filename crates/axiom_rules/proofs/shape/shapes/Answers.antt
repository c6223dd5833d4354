use Rattle.axiom_rules.proofs.ShapeLemmas.{shapes-push}
use Rattle.axiom_rules.proofs.shape.shapes.Goals as goal

pub loop-k-preserved : goal.loop-k-preserved
loop-k-preserved c =
    rw c.in_ok-push.ensures.items
    (shapes-push c.args.log.now c.args.arena.now (c.loop-k.list).items c.loop-k.k c.in_ok-shape_of.field-0 c.loop-k.invariant (rw c.new.ensures.number at c.in_ok-shape_of.ensures))
