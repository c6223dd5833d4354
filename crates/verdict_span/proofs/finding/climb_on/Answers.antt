use Rattle.verdict_span.proofs.finding.climb_on.Goals as goal

pub returns : goal.returns
returns c = record { right = c.answer.ensures.right c.args.span.now c.loop-climb.invariant }
