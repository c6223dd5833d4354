use Rattle.std.proofs.Common.{arith}
use Rattle.std.proofs.lemmas.Int.{ints}
use Rattle.verdict_span.proofs.reach.refuted_from.Goals as goal

pub gap-requires : goal.gap-requires
gap-requires c =
    let order = c.requires.order in
    let low = c.requires.low in
    let high = c.requires.high in
    record {
      order = omega (arith, ints, order, low.low, low.high, high.low, high.high);
      low = record { low = omega (arith, ints, low.low, low.high); high = omega (arith, ints, low.low, low.high) };
      high = record { low = omega (arith, ints, high.low, high.high); high = omega (arith, ints, high.low, high.high) };
    }
