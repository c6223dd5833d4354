use Rattle.verdict.proofs.BoundWalks.{BoundsWalked}
use Rattle.verdict.proofs.bounds.walk_of.Given as goal

abbrev pub invariant-loop-i : goal.invariant-loop-i
invariant-loop-i l = BoundsWalked l.log l.count l.text l._i l.rest l.walk
