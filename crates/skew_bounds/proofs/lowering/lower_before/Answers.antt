use Rattle.std.proofs.Common.{◌≡◌, pos, take}
use Rattle.std.specs.BinaryHeap.{heap_items}
use Rattle.std.proofs.lemmas.List.{take_more}
use Rattle.std.proofs.lemmas.List.Elements.{All-take}
use Rattle.neg_cycle.specs.Systems.{edge_at}
use Rattle.skew_bounds.proofs.Falls.{lowered-more}
use Rattle.skew_bounds.proofs.lowering.lower_before.Goals as goal

pub loop-edge-preserved : goal.loop-edge-preserved
loop-edge-preserved c =
    let edges = c.args.edges.now in
    let i = c.loop-edge.edge-index in
    let edge = edge_at edges i in
    let ends : edge.to ≡ c.args.node = c.requires.ends i _ c.loop-edge-test.true in
    let more = rw ends at c.in_ok-relax.ensures.lowered in
    record {
      search = c.in_ok-relax.ensures.search;
      lowered =
          rw (take_more edges i (record { from = 0; to = 0; bound = pos 0 }) c.loop-edge-test.true)
          (lowered-more c.args.potential.now c.args.node (take i edges) edge c.args.numbers.now c.loop-edge.numbers c.relax.new.numbers (heap_items c.args.waiting.now) (heap_items c.loop-edge.waiting)
          (heap_items c.relax.new.waiting) (All-take (λ e. e.to ≡ c.args.node) i edges c.requires.ends) c.loop-edge.invariant.lowered more);
    }
