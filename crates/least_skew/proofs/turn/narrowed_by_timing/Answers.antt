use Rattle.std.proofs.Common.{arith}
use Rattle.least_skew.proofs.Narrowing.{narrowed-down}
use Rattle.least_skew.proofs.turn.narrowed_by_timing.Goals as goal

pub admitted_from-requires-clause-admissible : goal.admitted_from-requires-clause-admissible
admitted_from-requires-clause-admissible c = let found = rw c.requires.wide at c.requires.gives in rw c.as_slice.ensures.items found.admissible

pub returns : goal.returns
returns c =
    let a = c.args.aim.now in
    let admissible = rw c.as_slice.ensures.items at c.in_ok-r.ensures.admissible in
    let found = rw c.requires.wide at c.requires.gives in
    let from = c.in_ok-r.ensures.from in
    let to = c.in_ok-r.ensures.to in
    let below = c.requires.below in
    let low = c.down_to.ensures.low in
    let high = c.down_to.ensures.high in
    record {
      turned = λ max within bracket. (
        c.down_to.ensures.bracket a max bracket (narrowed-down a.log.now a.nodes.now a.value c.args.there.now.s c.in_ok-r.r c.args.times found admissible),
        rw (low, high) (omega (arith, from, to, below)),
      );
    }
