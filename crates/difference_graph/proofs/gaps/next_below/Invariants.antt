use Rattle.std.proofs.Common.{take}
use Rattle.difference_graph.specs.Gaps.{IsFound}
use Rattle.difference_graph.proofs.gaps.next_below.Given as goal

abbrev pub invariant-loop-number : goal.invariant-loop-number
invariant-loop-number l = IsFound (take l.number-index l.numbers) l.level l.found
