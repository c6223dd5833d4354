use Rattle.std.specs.List.{flat_map, range_with_len}
use Rattle.mtl_encode.specs.Growth.{Gains}
use Rattle.mtl_encode.specs.Instances.{of_number, out_by}
use Rattle.mtl_encode.proofs.clauses.Clauses.add_all.Given as goal

abbrev pub invariant-loop-number : goal.invariant-loop-number
invariant-loop-number l = Gains l.rules l.fn.self l.self (flat_map (of_number l.rules (out_by l.tight l.rules)) (range_with_len 0 l.number))
