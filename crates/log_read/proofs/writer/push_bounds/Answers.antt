use Rattle.log_read.specs.LogText.{bound_fields}
use Rattle.log_read.proofs.PushedLines.{pushed-line}
use Rattle.log_read.proofs.writer.push_bounds.Goals as goal

pub loop-bound-preserved : goal.loop-bound-preserved
loop-bound-preserved c =
    pushed-line bound_fields c.args.bounds.now c.loop-bound.bound-index c.bound-item.result c.args.text.now.items c.loop-bound.text.items c.push_bound.new.text.items
    c.loop-bound-test.true c.bound-item.is c.loop-bound.invariant c.in_ok-push_bound.ensures
