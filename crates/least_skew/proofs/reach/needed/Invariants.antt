use Rattle.std.proofs.Common.{◌≤◌}
use Rattle.least_skew.proofs.reach.needed.Given as goal

abbrev pub invariant-loop-e : goal.invariant-loop-e
invariant-loop-e l = l.least ≤ l.most
