use Rattle.std.proofs.Common.{arith}
use Rattle.std.proofs.lemmas.Int.{ints}
use Rattle.skew_bounds.proofs.Near.{times-near}
use Rattle.verdict_span.proofs.Climbing.{gives-without, reached}
use Rattle.verdict_span.proofs.Extras.{far}
use Rattle.verdict_span.proofs.Telling.{difference-near}
use Rattle.verdict_span.proofs.turn.narrowed_by_timing.Goals as goal

pub distance-d-requires-clause-near : goal.distance-d-requires-clause-near
distance-d-requires-clause-near c =
    let s = c.args.span.now in
    let a = s.aim in
    let found = rw c.requires.spaced at c.requires.gives in
    let gives = gives-without a.log.now a.nodes.now a.value s.e s.to c.args.there.now.c c.args.times found in
    rw c.as_slice.ensures.items (times-near a.log.now c.log_is_valid.ensures.valid c.args.times gives.admissible)

pub up_to-requires-clause-from : goal.up_to-requires-clause-from
up_to-requires-clause-from c =
    let s = c.args.span.now in
    let a = s.aim in
    let found = rw c.requires.spaced at c.requires.gives in
    let gives = gives-without a.log.now a.nodes.now a.value s.e s.to c.args.there.now.c c.args.times found in
    let near = difference-near a.log.now s.e s.to c.args.times c.log_is_valid.ensures.valid s.pair.row s.pair.other gives.admissible in
    let same = rw c.as_slice.ensures.items at c.distance-d.ensures.distance in
    let low = near.low in
    let high = near.high in
    let above = far a.log.now s.e s.to c.args.there.now.c c.args.times found.admissible in
    let from = c.requires.from in
    omega (arith, ints, from, above, same, low, high)

pub up_to-requires-clause-to : goal.up_to-requires-clause-to
up_to-requires-clause-to c =
    let s = c.args.span.now in
    let a = s.aim in
    let climb = c.requires.climb in
    let found = rw c.requires.spaced at c.requires.gives in
    let gives = gives-without a.log.now a.nodes.now a.value s.e s.to c.args.there.now.c c.args.times found in
    let near = difference-near a.log.now s.e s.to c.args.times c.log_is_valid.ensures.valid s.pair.row s.pair.other gives.admissible in
    let same = rw c.as_slice.ensures.items at c.distance-d.ensures.distance in
    let low = near.low in
    let high = near.high in
    let most = reached a.log.now a.nodes.now a.value s.e s.to c.refuted_is_no_value.ensures c.args.climb.distance c.args.climb.room a.budget c.args.climb.beyond
    c.log_is_valid.ensures.valid s.pair climb.near climb.top climb.refuted c.args.times gives in
    omega (arith, ints, most, same, low, high)

pub returns : goal.returns
returns c =
    let s = c.args.span.now in
    let a = s.aim in
    let found = rw c.requires.spaced at c.requires.gives in
    let gives = gives-without a.log.now a.nodes.now a.value s.e s.to c.args.there.now.c c.args.times found in
    let near = difference-near a.log.now s.e s.to c.args.times c.log_is_valid.ensures.valid s.pair.row s.pair.other gives.admissible in
    let same = rw c.as_slice.ensures.items at c.distance-d.ensures.distance in
    let low = near.low in
    let high = near.high in
    record { room = c.up_to.ensures.room; climb = c.up_to.ensures.climb s c.requires.climb gives (omega (arith, ints, same, low, high)) }
