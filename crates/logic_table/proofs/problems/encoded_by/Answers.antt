use Rattle.std.proofs.Common.{arith}
use Rattle.logic_table.proofs.problems.encoded_by.Goals as goal

-- the size that was found is the only one
pub encode-requires-clause-size : goal.encode-requires-clause-size
encode-requires-clause-size c = λ n is. let same = c.sizes_are_unique.ensures.unique _ _ n c.size_of.result is c.size_of.ensures.size in omega (arith, same)
