use Rattle.std.proofs.Common.{arith}
use Rattle.least_skew.proofs.Ends.{low-refuted}
use Rattle.least_skew.proofs.bracket.Bracket.above.Goals as goal

pub returns-clause-bracket : goal.returns-clause-bracket
returns-clause-bracket c = λ a max is refuted.
    let below = c.requires in
    record { in_order = omega (arith, below); below = low-refuted a max c.args.s c.args.lines refuted; above = is.above }
