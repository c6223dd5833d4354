use Rattle.std.proofs.Common.{arith}
use Rattle.std.proofs.lemmas.Int.{ints}
use Rattle.verdict_span.proofs.Climbing.{whether-at}
use Rattle.verdict_span.proofs.reach.refutes_at.Goals as goal

pub returns : goal.returns
returns c =
    let s = c.args.span.now in
    let a = s.aim in
    let told = rw c.in_ok-near.ensures.spaced at c.is_refuted_in.ensures.refutes in
    let low = c.requires.range.low in
    let high = c.requires.range.high in
    record { refutes = whether-at c.is_refuted_in.result a.log.now a.nodes.now a.value s.e s.to _ c.args.c c.args.lines.now told (omega (arith, ints, low, high)) }
