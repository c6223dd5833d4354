use Rattle.std.proofs.Common.{◌≡◌, ◌-◌, length}
use Rattle.propagate.specs.Watching.{watchers_of}
use Rattle.propagate.specs.Reach.{IsProgress}
use Rattle.propagate.specs.Visits.{IsNextFalse}
use Rattle.propagate.proofs.MoveLemmas.{AreLeft}
use Rattle.propagate.proofs.trail.Trail.visit_watchers.Given as goal

abbrev pub invariant-watchers : goal.invariant-watchers
invariant-watchers l = record {
  progress : IsProgress l.clauses (l.fn.self, l.fn.graph) (l.self, l.graph);
  propagated : l.self.propagated ≡ l.fn.self.propagated;
  next : IsNextFalse l.self l.lit;
  left : AreLeft l.self l.lit l.place;
}

abbrev pub decreases-watchers : goal.decreases-watchers
decreases-watchers l = length (watchers_of l.self.watching l.lit) - l.place
