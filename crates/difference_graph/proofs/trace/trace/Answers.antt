use Rattle.std.proofs.Common.{◌≡◌, ◌+◌, ◌-◌, inl, inr, arith, get_or}
use Rattle.std.proofs.lemmas.Bool.{cases_eq}
use Rattle.neg_cycle.specs.Systems.{edge_at}
use Rattle.difference_graph.proofs.TreeLemmas.{tracing_start, tracing_stays, tracing_goes, traced}
use Rattle.difference_graph.proofs.trace.trace.Goals as goal

pub loop-left-init : goal.loop-left-init
loop-left-init c =
    let items = c.push_within.ensures.items in
    let cleared = c.clear.ensures.items in
    record {
      tracing = rw (items, cleared) (tracing_start c.args.edges.now c.args.order.now c.args.place c.requires.place c.requires.tree c.requires.leads);
      room = omega (arith, c.clear.ensures.capacity, c.push_within.ensures.capacity);
    }

pub loop-left-preserved : goal.loop-left-preserved
loop-left-preserved c =
    let more : c.loop-left.left ≡ c.loop-left.left - 1 + 1 = omega (arith, c.loop-left-test.true) in
    let t = c.loop-left.invariant.tracing in
    record {
      tracing = elim (cases_eq (edge_at c.args.edges.now (get_or c.args.order.now (c.loop-left.left - 1) 0)).from c.loop-left.node) [
        | inl from ↦
            let (items, node) = c.follow-node.ensures.goes from in
            rw (items, node) (tracing_goes c.args.edges.now c.args.order.now c.args.place c.requires.place c.requires.tree
            (c.loop-left.left - 1) c.loop-left.left c.loop-left.node c.loop-left.walk.items t more from)
        | inr other ↦
            let (items, node) = c.follow-node.ensures.stays other in
            rw (items, node)
            (tracing_stays c.args.edges.now c.args.order.now c.args.place c.requires.place c.requires.tree (c.loop-left.left - 1)
            c.loop-left.left c.loop-left.node c.loop-left.walk.items t more other)
      ];
      room = omega (arith, c.follow-node.ensures.room, c.loop-left.invariant.room);
    }

pub returns-clause-trace : goal.returns-clause-trace
returns-clause-trace c =
    let none : c.loop-left.left ≡ 0 = omega (arith, c.loop-left-test.false) in
    traced c.args.edges.now c.args.order.now c.args.place c.requires.place c.requires.tree c.loop-left.left c.loop-left.node c.loop-left.walk.items c.loop-left.invariant.tracing none
