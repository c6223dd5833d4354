use Rattle.std.proofs.Common.{◌≡◌}
use Rattle.mt_model.specs.Clocks.{greatest_below}
use Rattle.skew_bounds.proofs.offsets.offset.Given as goal

abbrev pub invariant-loop-e : goal.invariant-loop-e
invariant-loop-e l = l.greatest ≡ greatest_below l.log l.times l.k l.e
