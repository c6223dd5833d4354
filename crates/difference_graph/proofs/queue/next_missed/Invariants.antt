use Rattle.std.proofs.Common.{◌≤◌, length}
use Rattle.std.specs.Prelude.{All, Contains}
use Rattle.std.specs.BinaryHeap.{heap_items, heap_capacity}
use Rattle.difference_graph.specs.Queues.{IsOrdered, IsQueue}
use Rattle.difference_graph.proofs.queue.next_missed.Given as goal

abbrev pub invariant-loop-next : goal.invariant-loop-next
invariant-loop-next l = record {
  order : IsOrdered (heap_items l.waiting);
  queue : IsQueue l.edges l.numbers 0 0 (heap_items l.waiting);
  fewer : All (Contains (heap_items l.fn.waiting)) (heap_items l.waiting);
  room : heap_capacity l.fn.waiting ≤ heap_capacity l.waiting;
}

abbrev pub decreases-loop-next : goal.decreases-loop-next
decreases-loop-next l = length (heap_items l.waiting)
