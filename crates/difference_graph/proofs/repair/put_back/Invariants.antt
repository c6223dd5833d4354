use Rattle.std.proofs.Common.{◌≡◌, ◌≤◌, List, length, take, ℤ}
use Rattle.difference_graph.specs.Work.{AreFormer, DiffersAt}
use Rattle.difference_graph.proofs.repair.put_back.Given as goal

abbrev pub invariant-loop-left : goal.invariant-loop-left
invariant-loop-left l = record {
  within : l.left ≤ length l.places;
  count : length l.numbers ≡ length l.fn.numbers;
  differs : (old : List ℤ) → AreFormer l.edges l.places old l.former → DiffersAt l.edges l.places old l.fn.numbers → DiffersAt l.edges (take l.left l.places) old l.numbers;
}

abbrev pub decreases-loop-left : goal.decreases-loop-left
decreases-loop-left l = l.left
