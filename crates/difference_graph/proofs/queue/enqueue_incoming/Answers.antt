use Rattle.std.proofs.Common.{◌≡◌, ◌∙◌, arith, get_or, ◌-◌}
use Rattle.std.specs.BinaryHeap.{heap_items}
use Rattle.std.proofs.lemmas.Grind.{get_or_default_zero}
use Rattle.neg_cycle.specs.Systems.{edge_at}
use Rattle.difference_graph.proofs.QueueLemmas.{queue_room, queue_step, added_step}
use Rattle.difference_graph.proofs.IncomingLemmas.{next_mark}
use Rattle.difference_graph.proofs.queue.enqueue_incoming.Goals as goal

pub enqueue_missed-requires-clause-room : goal.enqueue_missed-requires-clause-room
enqueue_missed-requires-clause-room c =
    let inv = c.loop-mark.invariant in
    let some = c.loop-mark-test.true in
    let room = queue_room c.args.held.now.edges.items c.args.numbers.now c.args.node c.loop-mark.mark c.args.end (heap_items c.loop-mark.waiting) inv.queue some inv.few (inv.ends.ends some) in
    omega (arith, room, inv.room, c.requires.room)

pub loop-mark-preserved : goal.loop-mark-preserved
loop-mark-preserved c =
    let inv = c.loop-mark.invariant in
    let some = c.loop-mark-test.true in
    let to = inv.ends.ends some in
    let edges = c.deref.ensures.value in
    let enqueued = rw edges at c.in_default.ensures.enqueued in
    let mark = c.requires.incoming.places (c.loop-mark.mark - 1) (omega (arith, some, inv.few)) in
    let read : c.index-mark-in-loop-mark.result.now ≡ get_or c.args.held.now.before.items (c.loop-mark.mark - 1) 0 =
    c.index-mark-in-loop-mark.ensures ∙ get_or_default_zero c.args.held.now.before.items (c.loop-mark.mark - 1)
    c.index-mark-in-loop-mark.result.now (omega (arith, some, inv.few, c.requires.incoming.count)) in
    record {
      few = rw read (omega (arith, mark.within, inv.few));
      ends = rw (read, ← to) (next_mark c.args.held.now.edges.items (c.loop-mark.mark - 1) (edge_at c.args.held.now.edges.items (c.loop-mark.mark - 1)).to _ mark);
      order = c.in_default.ensures.order;
      queue =
          rw read (queue_step c.args.held.now.edges.items c.args.numbers.now c.args.node c.loop-mark.mark c.args.end
          (heap_items c.loop-mark.waiting) inv.queue some inv.few to _ mark (heap_items c.enqueue_missed.new.waiting) enqueued);
      added =
          added_step c.args.held.now.edges.items c.args.numbers.now c.args.node c.loop-mark.mark c.args.end (heap_items c.loop-mark.waiting)
          inv.queue some inv.few to (heap_items c.args.waiting.now) (heap_items c.enqueue_missed.new.waiting) inv.added enqueued;
      room = omega (arith, inv.room, c.in_default.ensures.room);
    }
