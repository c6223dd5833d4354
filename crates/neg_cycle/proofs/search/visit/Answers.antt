use Rattle.std.proofs.Common.{arith, length, ◌<◌, suc, ◌≡◌}
use Rattle.std.proofs.lemmas.List.{length-map}
use Rattle.neg_cycle.specs.Search.{nodes_of}
use Rattle.neg_cycle.proofs.WalkLemmas.{visited_more, visited_next}
use Rattle.neg_cycle.proofs.search.visit.Goals as goal

pub loop-i-preserved : goal.loop-i-preserved
loop-i-preserved c =
    let ps = c.args.walk.now.places.items in
    let ns = nodes_of c.args.edges.now c.args.walk.now.start ps in
    let same = c.deref-place-items.ensures.value in
    let below : c.loop-i.i < length ps = rw (same) at c.loop-i-test.true in
    let many : length ns ≡ suc (length ps) = simp length-map in
    record {
      here = rw same (visited_next c.args.edges.now c.args.walk.now.start ps c.loop-i.i below);
      before = visited_more c.args.node c.loop-i.here ns c.loop-i.i (omega arith) c.loop-i.invariant.before c.loop-i.invariant.here c.if-here-node.false;
    }
