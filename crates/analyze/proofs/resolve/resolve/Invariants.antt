use Rattle.analyze.specs.Working.{IsWorking}
use Rattle.analyze.proofs.resolve.resolve.Given as goal

abbrev pub invariant-walk : goal.invariant-walk
invariant-walk l = IsWorking l.trail l.db l.fn.conflict l.place l.work

abbrev pub decreases-walk : goal.decreases-walk
decreases-walk l = l.place
