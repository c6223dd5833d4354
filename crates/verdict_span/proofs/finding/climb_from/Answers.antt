use Rattle.std.proofs.Common.{arith}
use Rattle.std.proofs.lemmas.Int.{ints}
use Rattle.skew_bounds.proofs.Near.{times-near}
use Rattle.verdict_span.proofs.Climbing.{refuted-at, refuted-by-one}
use Rattle.verdict_span.proofs.Telling.{difference-near}
use Rattle.verdict_span.proofs.finding.climb_from.Goals as goal

pub distance-distance-requires-clause-near : goal.distance-distance-requires-clause-near
distance-distance-requires-clause-near c =
    rw c.as_slice.ensures.items (times-near c.args.span.now.aim.log.now c.log_is_valid.ensures.valid c.args.times c.requires.gives.admissible)

pub gap-requires : goal.gap-requires
gap-requires c =
    let s = c.args.span.now in
    let near = difference-near s.aim.log.now s.e s.to c.args.times c.log_is_valid.ensures.valid s.pair.row s.pair.other c.requires.gives.admissible in
    let same = rw c.as_slice.ensures.items at c.distance-distance.ensures.distance in
    let most = c.requires.top.bound c.args.times c.requires.gives.admissible in
    let low = near.low in
    let high = near.high in
    let least = c.requires.near.low in
    let greatest = c.requires.near.high in
    record {
      order = omega (arith, ints, same, most, low, high, least, greatest);
      low = record { low = omega (arith, ints, same, low, high); high = omega (arith, ints, same, low, high) };
      high = record { low = omega (arith, ints, least, greatest); high = omega (arith, ints, least, greatest) };
    }

pub returns : goal.returns
returns c =
    let s = c.args.span.now in
    let a = s.aim in
    let near = difference-near a.log.now s.e s.to c.args.times c.log_is_valid.ensures.valid s.pair.row s.pair.other c.requires.gives.admissible in
    let same = rw c.as_slice.ensures.items at c.distance-distance.ensures.distance in
    let low = near.low in
    let high = near.high in
    let least = c.requires.near.low in
    let greatest = c.requires.near.high in
    let room = c.gap.ensures.gap in
    record {
      climb = record {
        gives = c.requires.gives;
        distance = omega (arith, ints, same, low, high);
        near = record { low = omega (arith, ints, same, low, high); high = omega (arith, ints, same, low, high) };
        top = omega (arith, ints, room, same, low, high, least, greatest);
        refuted = refuted-at a.log.now a.nodes.now a.value s.e s.to _ _ a.budget c.in_ok-beyond.beyond (omega (arith, ints, room, same, low, high, least, greatest))
            (refuted-by-one a.log.now a.nodes.now a.value s.e s.to _ a.budget c.in_ok-beyond.beyond a.some c.in_ok-beyond.ensures.refuted c.in_ok-beyond.ensures.one);
      };
    }
