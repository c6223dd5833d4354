use Rattle.std.proofs.Common.{arith}
use Rattle.std.proofs.lemmas.Int.{ints}
use Rattle.verdict_span.proofs.Climbing.{refuted-at, refuted-within}
use Rattle.verdict_span.proofs.turn.narrowed_by_lines.Goals as goal

pub refuted_from-requires-clause-order : goal.refuted_from-requires-clause-order
refuted_from-requires-clause-order c =
    let from = c.requires.from in
    let low = c.requires.climb.near.low in
    let high = c.requires.climb.near.high in
    omega (arith, ints, from, low, high)

pub refuted_from-requires-clause-low : goal.refuted_from-requires-clause-low
refuted_from-requires-clause-low c =
    let from = c.requires.from in
    let to = c.requires.to in
    let low = c.requires.climb.near.low in
    let high = c.requires.climb.near.high in
    let top = c.requires.climb.top in
    record { low = omega (arith, ints, low, high); high = omega (arith, ints, low, high, from, to, top) }

pub refuted_from-requires-clause-high : goal.refuted_from-requires-clause-high
refuted_from-requires-clause-high c =
    let from = c.requires.from in
    let to = c.requires.to in
    let low = c.requires.climb.near.low in
    let top = c.requires.climb.top in
    record { low = omega (arith, ints, low, from); high = omega (arith, ints, to, top) }

pub refuted_from-requires-clause-few : goal.refuted_from-requires-clause-few
refuted_from-requires-clause-few c =
    let few = c.requires.refuted.few in
    let most = c.args.span.now.aim.most in
    rw c.as_slice.ensures.items (omega (arith, few, most))

pub refuted_from-requires-clause-refutes : goal.refuted_from-requires-clause-refutes
refuted_from-requires-clause-refutes c = rw c.as_slice.ensures.items c.requires.refuted.refutes

pub returns : goal.returns
returns c =
    let s = c.args.span.now in
    let a = s.aim in
    let found = rw c.requires.spaced at c.requires.refuted in
    let refutes = rw c.as_slice.ensures.items at c.in_ok-c.ensures.refutes in
    let from = c.in_ok-c.ensures.from in
    let to = c.in_ok-c.ensures.to in
    let least = c.requires.from in
    let most = c.requires.to in
    let low = c.requires.climb.near.low in
    let high = c.requires.climb.near.high in
    let top = c.requires.climb.top in
    record {
      room = c.down_to.ensures.room;
      climb = c.down_to.ensures.climb s c.requires.climb
          (refuted-at a.log.now a.nodes.now a.value s.e s.to _ _ a.budget c.args.lines (omega (arith, ints, from, to, least, most, low, high, top))
          (refuted-within a.log.now a.nodes.now a.value s.e s.to c.args.there.now.c _ a.budget c.args.lines found refutes));
    }
