use Rattle.verdict_span.specs.Climbs.{IsClimb}
use Rattle.verdict_span.proofs.finding.climb_on.Given as goal

abbrev pub invariant-loop-climb : goal.invariant-loop-climb
invariant-loop-climb l = IsClimb l.span l.climb

abbrev pub decreases-loop-climb : goal.decreases-loop-climb
decreases-loop-climb l = l.climb.room
