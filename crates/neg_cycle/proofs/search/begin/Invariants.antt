use Rattle.neg_cycle.specs.Search.{IsBeginning}
use Rattle.neg_cycle.proofs.search.begin.Given as goal

abbrev pub invariant-loop-start : goal.invariant-loop-start
invariant-loop-start l = IsBeginning l.start l.numbers.items l.walks.items
