use Rattle.std.proofs.Common.{arith, ◌+◌, pos, ◌+ℤ◌}
use Rattle.std.proofs.lemmas.Int.{ints}
use Rattle.verdict_span.proofs.Climbing.{refuted-at}
use Rattle.verdict_span.proofs.climb.Climb.answer.Goals as goal

pub returns : goal.returns
returns c = record {
  right = λ s is.
      let a = s.aim in
      let none = c.requires in
      let same = is.distance in
      let low = is.near.low in
      let high = is.near.high in
      record {
        gives = is.gives;
        distance = omega (arith, ints, same, low, high);
        refuted = refuted-at a.log.now a.nodes.now a.value s.e s.to (c.args.self.distance +ℤ pos (c.args.self.room + 1)) _ a.budget c.args.self.beyond (omega (arith, ints, none, low, high)) is.refuted;
      };
}
