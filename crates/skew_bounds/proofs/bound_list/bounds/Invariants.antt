use Rattle.std.proofs.Common.{◌≡◌, ◌++◌, length, map}
use Rattle.std.specs.List.{flat_map, range_with_len}
use Rattle.mt_model.specs.declared.bound.Bound.TheVariants as bound
use Rattle.mt_model.specs.Bounds.{bounds_at}
use Rattle.skew_bounds.proofs.bound_list.bounds.Given as goal

abbrev pub invariant-loop-k : goal.invariant-loop-k
invariant-loop-k l = l.list ≡ flat_map (bounds_at l.log) (range_with_len 0 (length (l.log).rows)) ++ map bound.Extra (range_with_len 0 l.k)
