use Rattle.std.proofs.Common.{◌≡◌, map}
use Rattle.std.specs.List.{range_with_len}
use Rattle.mt_model.specs.Clocks.{offset_at}
use Rattle.skew_bounds.proofs.offsets.offsets.Given as goal

abbrev pub invariant-loop-k : goal.invariant-loop-k
invariant-loop-k l = l.offsets.items ≡ map (offset_at l.log l.times) (range_with_len 0 l.k)
