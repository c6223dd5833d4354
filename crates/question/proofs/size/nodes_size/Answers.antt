use Rattle.std.proofs.Common.{arith}
use Rattle.std.proofs.lemmas.List.Sums.{sum_by_more}
use Rattle.mt_model.specs.Form.{True}
use Rattle.skew_bounds.specs.Tight.{events_of}
use Rattle.question.specs.Extremes.{extremes_of}
use Rattle.question.specs.Size.{tree_size}
use Rattle.question.proofs.size.nodes_size.Goals as goal

pub loop-k-preserved : goal.loop-k-preserved
loop-k-preserved c =
    let more = sum_by_more (tree_size (extremes_of c.args.tight.now) (events_of c.args.tight.now)) c.args.arena.now c.loop-k.k True (omega (arith, c.loop-k-test.true, c.len-k-end.ensures.nodes)) in
    let so_far = c.loop-k.invariant in
    let here = c.node_size-size.ensures in
    let size = rw c.new.ensures.number at here.size in
    (omega (arith, more, so_far.0, size), omega (arith, so_far.1, here.at_most))
