use Rattle.std.proofs.Common.{take}
use Rattle.std.specs.BinaryHeap.{heap_items}
use Rattle.skew_bounds.specs.Lowering.{IsLowered, IsSearch}
use Rattle.skew_bounds.proofs.lowering.lower_before.Given as goal

abbrev pub invariant-loop-edge : goal.invariant-loop-edge
invariant-loop-edge l = record {
  search : IsSearch l.potential l.numbers;
  lowered : IsLowered l.potential l.node (take l.edge-index l.edges) l.fn.numbers (heap_items l.fn.waiting) l.numbers (heap_items l.waiting);
}
