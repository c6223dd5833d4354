use Rattle.std.proofs.Common.{◌≡◌}
use Rattle.std.specs.List.{flat_map, range_with_len}
use Rattle.mt_model.specs.Bounds.{bounds_at}
use Rattle.skew_bounds.proofs.bound_list.row_bounds.Given as goal

abbrev pub invariant-loop-e : goal.invariant-loop-e
invariant-loop-e l = l.list ≡ flat_map (bounds_at l.log) (range_with_len 0 l.e)
