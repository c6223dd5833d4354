use Rattle.std.proofs.Common.{arith}
use Rattle.analyze.proofs.resolve.resolvent.Goals as goal

pub has_mark_here-requires-clause-in_range : goal.has_mark_here-requires-clause-in_range
has_mark_here-requires-clause-in_range c = λ k has. let below = c.requires.below k has in omega (arith, below, c.requires.in_range)
