use Rattle.std.proofs.Common.{arith}
use Rattle.std.proofs.lemmas.Int.{ints}
use Rattle.verdict_span.proofs.Climbing.{refuted-at}
use Rattle.verdict_span.proofs.climb.Climb.down_to.Goals as goal

pub returns-clause-climb : goal.returns-clause-climb
returns-clause-climb c = λ s is refuted.
    let a = s.aim in
    let from = c.requires.from in
    let most = c.requires.to in
    let same = is.distance in
    let low = is.near.low in
    let high = is.near.high in
    let top = is.top in
    let gained = c.gap.ensures.gap in
    record {
      gives = is.gives;
      distance = omega (arith, ints, same, low, high);
      near = record { low = omega (arith, ints, low, high); high = omega (arith, ints, low, high) };
      top = omega (arith, ints, top, from, most, low, high, gained);
      refuted = refuted-at a.log.now a.nodes.now a.value s.e s.to c.args.c _ a.budget c.args.lines (omega (arith, ints, from, most, low, high, top, gained)) refuted;
    }
