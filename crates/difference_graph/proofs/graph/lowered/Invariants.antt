use Rattle.std.proofs.Common.{◌≡◌, length}
use Rattle.std.specs.Prelude.{All}
use Rattle.difference_graph.specs.Gaps.{IsNumber}
use Rattle.difference_graph.proofs.graph.lowered.Given as goal

abbrev pub invariant-loop-number : goal.invariant-loop-number
invariant-loop-number l = record {
  count : length l.list.items ≡ l.number-index;
  numbers : All IsNumber l.list.items;
}
