use Rattle.std.proofs.Common.{◌≤◌, ◌-◌, length}
use Rattle.propagate.specs.Reach.{IsProgress}
use Rattle.propagate.specs.Visits.{AreShortSatisfied}
use Rattle.propagate.proofs.trail.Trail.settle.Given as goal

abbrev pub invariant-literals : goal.invariant-literals
invariant-literals l = record {
  progress : IsProgress l.clauses (l.fn.self, l.fn.graph) (l.self, l.graph);
  known : length l.clauses.db.now ≤ length l.self.watching.watches;
  short : AreShortSatisfied l.self l.clauses.db.now;
}

abbrev pub decreases-literals : goal.decreases-literals
decreases-literals l = l.self.vars - l.self.propagated
