use Rattle.std.proofs.Common.{◌-◌, ◌≤◌}
use Rattle.mtl_encode.proofs.windows.passing.Given as goal

-- what is looked for is between the two
abbrev pub invariant-loop-low : goal.invariant-loop-low
invariant-loop-low g l = (l.low ≤ l.high) × (l.high ≤ l.len)

abbrev pub decreases-loop-low : goal.decreases-loop-low
decreases-loop-low g l = l.high - l.low
