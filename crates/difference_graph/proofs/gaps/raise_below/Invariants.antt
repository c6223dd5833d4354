use Rattle.difference_graph.proofs.GapLemmas.{IsRaisedSoFar}
use Rattle.difference_graph.proofs.gaps.raise_below.Given as goal

abbrev pub invariant-loop-i : goal.invariant-loop-i
invariant-loop-i l = IsRaisedSoFar l.i l.level l.by l.fn.numbers l.numbers
