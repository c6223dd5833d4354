use Rattle.std.proofs.Common.{arith}
use Rattle.least_skew.proofs.Ends.{high-most}
use Rattle.least_skew.proofs.turn.turn.Goals as goal

pub widened-requires-clause-range : goal.widened-requires-clause-range
widened-requires-clause-range c =
    let b = c.args.bracket in
    let most = high-most c.args.aim.now c.args.max b.high b.witness c.requires.bracket.above in
    let below = c.next.ensures.below in
    let range = c.requires.range in
    omega (arith, most, below, range)

pub turned_by-requires-clause-small : goal.turned_by-requires-clause-small
turned_by-requires-clause-small c =
    let b = c.args.bracket in
    let most = high-most c.args.aim.now c.args.max b.high b.witness c.requires.bracket.above in
    let below = c.next.ensures.below in
    rw c.in_ok-there.ensures.wide (c.requires.small c.next.result (omega (arith, most, below)))
