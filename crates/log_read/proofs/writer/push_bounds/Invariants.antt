use Rattle.std.proofs.Common.{◌≡◌, ◌++◌, map, take}
use Rattle.std.specs.List.{flat_map}
use Rattle.log_read.specs.LogText.{bound_fields, line_of}
use Rattle.log_read.proofs.writer.push_bounds.Given as goal

abbrev pub invariant-loop-bound : goal.invariant-loop-bound
invariant-loop-bound l = l.text.items ≡ l.fn.text.items ++ flat_map line_of (map bound_fields (take l.bound-index l.bounds))
