use Rattle.std.proofs.Common.{◌-◌, length}
use Rattle.std.specs.BinaryHeap.{heap_items}
use Rattle.difference_graph.specs.Queues.{IsOrdered}
use Rattle.difference_graph.specs.Repairs.{MeetsOthers}
use Rattle.difference_graph.specs.Work.{KeepsRoom}
use Rattle.difference_graph.proofs.WorkLemmas.{IsState}
use Rattle.difference_graph.proofs.repair.repair.Given as goal

abbrev pub invariant-loop-next : goal.invariant-loop-next
invariant-loop-next l = record {
  others : MeetsOthers l.held.edges.items l.end l.fn.numbers;
  state : IsState l.held.edges.items l.end l.fn.numbers l.numbers l.work.order.items l.work.former.items (heap_items l.work.waiting);
  order : IsOrdered (heap_items l.work.waiting);
  room : KeepsRoom l.fn.work l.work;
}

abbrev pub decreases-loop-next : goal.decreases-loop-next
decreases-loop-next l = length l.fn.numbers - length l.work.order.items
