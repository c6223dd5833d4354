use Rattle.std.proofs.Common.{◌≡◌, ◌≤◌, arith}
use Rattle.std.specs.Prelude.{count_by}
use Rattle.std.specs.List.{range_with_len}
use Rattle.std.proofs.Math.Nat.{mul-le-mul_left, suc-mul}
use Rattle.skew_bounds.specs.Tight.{events_of}
use Rattle.question.proofs.SizeBounds.{live-few, sum-range}
use Rattle.question.specs.Extremes.{extremes_of, is_live}
use Rattle.question.specs.Size.{live_pairs}
use Rattle.question.proofs.size.live_pairs.Goals as goal

pub overflow_add-count : goal.overflow_add-count
overflow_add-count c =
    let events = events_of c.args.tight.now in
    let few = live-few (extremes_of c.args.tight.now) events c.args.direction c.args.interval.now c.loop-i.i in
    let wide = mul-le-mul_left c.loop-i.i (let low : events ≤ 1024 = omega (arith, c.requires.few) in low) in
    omega (arith, few, wide, c.live_from-count.ensures, c.loop-i.invariant.1, c.loop-i-test.true, c.events-i-end.ensures.count, c.requires.few)

pub loop-i-preserved : goal.loop-i-preserved
loop-i-preserved c =
    let events = events_of c.args.tight.now in
    let more = sum-range (λ i. count_by (is_live (extremes_of c.args.tight.now) c.args.direction c.args.interval.now i) (range_with_len 0 events)) c.loop-i.i in
    let so_far = c.loop-i.invariant in
    let here = c.live_from-count.ensures in
    let wide = suc-mul c.loop-i.i events in
    let few = live-few (extremes_of c.args.tight.now) events c.args.direction c.args.interval.now c.loop-i.i in
    (omega (arith, more, so_far.0, here), omega (arith, so_far.1, here, few, wide))

pub returns-clause-count : goal.returns-clause-count
unfolding live_pairs
returns-clause-count c =
    let all : c.loop-i.i ≡ events_of c.args.tight.now = omega (arith, c.loop-i-test.false, c.loop-i.auto.i-end, c.events-i-end.ensures.count) in
    rw all at c.loop-i.invariant.0
