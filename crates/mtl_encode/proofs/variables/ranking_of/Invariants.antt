use Rattle.std.specs.List.{range_with_len}
use Rattle.std.specs.List.Sorted.{IsPermutation}
use Rattle.mtl_encode.specs.Variables.{vars_in}
use Rattle.mtl_encode.proofs.variables.ranking_of.Given as goal

abbrev pub invariant-loop-v : goal.invariant-loop-v
invariant-loop-v l = IsPermutation (range_with_len 0 l.v) (vars_in l.ranking)
