use Rattle.std.proofs.Common.{◌-◌, length}
use Rattle.propagate.specs.Watching.{unwatched}
use Rattle.propagate.specs.Reach.{IsProgress}
use Rattle.propagate.proofs.trail.Trail.satisfy_short.Given as goal

abbrev pub invariant-short : goal.invariant-short
invariant-short l = IsProgress l.clauses (l.fn.self, l.fn.graph) (l.self, l.graph)

abbrev pub decreases-short : goal.decreases-short
decreases-short l = length (unwatched l.self.watching.watches) - l.self.watching.satisfied
