use Rattle.std.proofs.Common.{arith}
use Rattle.std.proofs.lemmas.Int.{ints}
use Rattle.verdict_span.proofs.Climbing.{greatest-at}
use Rattle.verdict_span.proofs.finding.search_widest.Goals as goal

pub greatest-top-requires-clause-e : goal.greatest-top-requires-clause-e
greatest-top-requires-clause-e c = rw c.requires.tight.events c.args.span.now.pair.row

pub greatest-top-requires-clause-f : goal.greatest-top-requires-clause-f
greatest-top-requires-clause-f c = rw c.requires.tight.events c.args.span.now.pair.other

pub search_value-requires-clause-small : goal.search_value-requires-clause-small
search_value-requires-clause-small c = rw (c.requires.log, c.requires.form) c.requires.small

pub search_value-requires-clause-tight : goal.search_value-requires-clause-tight
search_value-requires-clause-tight c = rw c.requires.log c.requires.tight

pub climb_from-requires-clause-top : goal.climb_from-requires-clause-top
climb_from-requires-clause-top c =
    let s = c.args.span.now in
    let greatest = c.requires.tight.greatest s.e s.to s.pair.row s.pair.other in
    let told = c.greatest-top.ensures.greatest in
    let low = c.greatest-top.ensures.small.low in
    let high = c.greatest-top.ensures.small.high in
    greatest-at s.aim.log.now s.e s.to _ _ greatest (omega (arith, ints, told, low, high))
