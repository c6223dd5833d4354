use Rattle.std.specs.BinaryHeap.{heap_items}
use Rattle.skew_bounds.specs.Incoming.{lists_of}
use Rattle.skew_bounds.specs.Lowering.{work}
use Rattle.skew_bounds.proofs.Reached.{IsReached}
use Rattle.skew_bounds.proofs.latest.latest.Given as goal

abbrev pub invariant-loop-next : goal.invariant-loop-next
invariant-loop-next l = IsReached (lists_of l.incoming) l.potential l.node l.numbers.items (heap_items l.waiting)

abbrev pub decreases-loop-next : goal.decreases-loop-next
decreases-loop-next l = work l.numbers.items (heap_items l.waiting)
