use Rattle.std.proofs.Common.{arith, pos}
use Rattle.skew_bounds.proofs.KnownSpans.{span-at, spans-count}
use Rattle.skew_bounds.proofs.rows.known_span.Goals as goal

pub bounds-spans-row : goal.bounds-spans-row
bounds-spans-row c =
    let below = rw c.rows.ensures.same at c.if-row-rows.true in
    omega (arith, below, spans-count c.args.log.now c.args.spans.now c.requires)

pub returns-then-row-rows : goal.returns-then-row-rows
returns-then-row-rows c =
    let below = rw c.rows.ensures.same at c.if-row-rows.true in
    rw (← c.get-row.ensures.number) (span-at c.args.log.now c.args.spans.now c.requires c.rows.ensures.valid c.get-row.result (record { skew = pos 0; gap = pos 0 }) below)
