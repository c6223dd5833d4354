use Rattle.std.proofs.Common.{arith, pos, ◌+ℤ◌}
use Rattle.std.proofs.lemmas.Int.{ints}
use Rattle.verdict_span.proofs.Climbing.{refute-at}
use Rattle.verdict_span.proofs.Extras.{far, unspaced}
use Rattle.verdict_span.proofs.finding.refuted_above.Goals as goal

-- no timing has a distance above the greatest
pub unreachable-requires : goal.unreachable-requires
unreachable-requires c =
    let s = c.args.span.now in
    let log = s.aim.log.now in
    let admissible = rw (c.in_ok-far.ensures.spaced, c.in-Timing.is) at c.in_ok-steps.ensures.answer in
    let above = far log s.e s.to _ c.in-Timing.field-0 admissible in
    let most = c.requires.top.bound c.in-Timing.field-0 (unspaced log s.e s.to _ c.in-Timing.field-0 admissible) in
    let low = c.requires.near.low in
    let high = c.requires.near.high in
    omega (arith, ints, above, most, low, high)

pub returns-clause-refuted : goal.returns-clause-refuted
returns-clause-refuted c =
    let s = c.args.span.now in
    let refuted = rw c.in_ok-far.ensures.spaced at c.refuted_by_conflict.ensures.refuted in
    let low = c.requires.near.low in
    let high = c.requires.near.high in
    refute-at c.refuted_by_conflict.result s.aim.log.now s.e s.to _ (c.args.top +ℤ pos 1) refuted (omega (arith, ints, low, high))
