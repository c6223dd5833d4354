use Rattle.std.proofs.Common.{◌≤◌, length}
use Rattle.std.specs.Prelude.{All}
use Rattle.std.specs.BinaryHeap.{heap_items, heap_capacity}
use Rattle.difference_graph.specs.Incoming.{IsLastMark}
use Rattle.difference_graph.specs.Queues.{IsOrdered, IsQueue, IsAdded}
use Rattle.difference_graph.proofs.queue.enqueue_incoming.Given as goal

abbrev pub invariant-loop-mark : goal.invariant-loop-mark
invariant-loop-mark l = record {
  few : l.mark ≤ length l.held.edges.items;
  ends : IsLastMark l.held.edges.items l.mark l.node l.mark;
  order : IsOrdered (heap_items l.waiting);
  queue : IsQueue l.held.edges.items l.numbers l.node l.mark (heap_items l.waiting);
  added : All (IsAdded l.held.edges.items l.node l.end (heap_items l.fn.waiting)) (heap_items l.waiting);
  room : heap_capacity l.fn.waiting ≤ heap_capacity l.waiting;
}

abbrev pub decreases-loop-mark : goal.decreases-loop-mark
decreases-loop-mark l = l.mark
