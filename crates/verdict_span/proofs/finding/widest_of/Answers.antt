use Rattle.verdict_span.proofs.Climbing.{small-spaced}
use Rattle.verdict_span.proofs.finding.widest_of.Goals as goal

pub returns-in-Conflict-clause-judged : goal.returns-in-Conflict-clause-judged
returns-in-Conflict-clause-judged c =
    rw (c.in_ok-question.ensures.log, c.in_ok-question.ensures.form) at c.in_ok-steps.ensures.judged

pub search_widest-requires-clause-consistent : goal.search_widest-requires-clause-consistent
search_widest-requires-clause-consistent c =
    let settled = rw (c.in-Timing.is, c.in_ok-question.ensures.log) at c.in_ok-steps.ensures.settled in
    record { timing = _; admissible = settled.0 }

pub search_widest-requires-clause-spaced_small : goal.search_widest-requires-clause-spaced_small
search_widest-requires-clause-spaced_small c =
    let s = c.args.span.now in
    let settled = rw (c.in-Timing.is, c.in_ok-question.ensures.log) at c.in_ok-steps.ensures.settled in
    let judged = rw (c.in_ok-question.ensures.log, c.in_ok-question.ensures.form) at c.in_ok-steps.ensures.judged in
    small-spaced c.sizes_fall.ensures.fall s.aim.log.now s.aim.nodes.now s.e s.to _ _ settled.0 settled.1 judged.small

pub search_widest-requires-clause-small : goal.search_widest-requires-clause-small
search_widest-requires-clause-small c =
    let judged = rw (c.in_ok-question.ensures.log, c.in_ok-question.ensures.form) at c.in_ok-steps.ensures.judged in
    judged.small

pub returns-in_ok-search_widest-in-Timing-clause-judged : goal.returns-in_ok-search_widest-in-Timing-clause-judged
returns-in_ok-search_widest-in-Timing-clause-judged c =
    rw (c.in_ok-question.ensures.log, c.in_ok-question.ensures.form) at c.in_ok-steps.ensures.judged
