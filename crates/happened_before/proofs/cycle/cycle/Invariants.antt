use Rattle.std.proofs.Common.{◌-◌, length}
use Rattle.happened_before.specs.Cycles.{IsPath}
use Rattle.happened_before.proofs.cycle.cycle.Given as goal

abbrev pub invariant-back : goal.invariant-back
invariant-back l = IsPath l.table l.finished l.path.items l.here

abbrev pub decreases-back : goal.decreases-back
decreases-back l = length l.table - length l.path.items
