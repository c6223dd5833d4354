use Rattle.std.proofs.Common.{arith, ◌+◌, pos, ◌+ℤ◌}
use Rattle.std.proofs.lemmas.Int.{ints}
use Rattle.verdict_span.proofs.Climbing.{refuted-at}
use Rattle.verdict_span.proofs.climb.Climb.up_to.Goals as goal

pub returns-clause-climb : goal.returns-clause-climb
returns-clause-climb c = λ s is gives same.
    let a = s.aim in
    let from = c.requires.from in
    let most = c.requires.to in
    let low = is.near.low in
    let high = is.near.high in
    let top = is.top in
    let gained = c.gap.ensures.gap in
    record {
      gives = gives;
      distance = omega (arith, ints, same, from, most, low, top);
      near = record { low = omega (arith, ints, from, most, low, top); high = omega (arith, ints, from, most, low, top) };
      top = omega (arith, ints, from, most, low, high, top, gained);
      refuted = refuted-at a.log.now a.nodes.now a.value s.e s.to (c.args.self.distance +ℤ pos (c.args.self.room + 1)) _ a.budget c.args.self.beyond
          (omega (arith, ints, from, most, low, high, top, gained)) is.refuted;
    }
