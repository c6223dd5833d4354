use Rattle.least_skew.proofs.Narrowing.{small-below}
use Rattle.least_skew.proofs.Widenings.{hosts-at}
use Rattle.std.proofs.Common.{◌∙◌}
use Rattle.least_skew.proofs.finding.least_of.Goals as goal

pub ready_with-requires : goal.ready_with-requires
ready_with-requires c = rw c.requires.wide (record { hosts = hosts-at c.args.aim.now.log.now _ c.args.aim.now.nodes.now ∙ c.args.aim.now.hosts })

pub returns-in-Conflict-clause-right : goal.returns-in-Conflict-clause-right
returns-in-Conflict-clause-right c = rw (c.in-Conflict.is, c.requires.wide) at c.in_ok-steps.ensures.settled

pub returns-in-Conflict-clause-asked : goal.returns-in-Conflict-clause-asked
returns-in-Conflict-clause-asked c = let judged = rw c.requires.wide at c.in_ok-steps.ensures.judged in record { hosts = c.args.aim.now.hosts; few = judged.nodes.few; small = judged.small }

pub search_least-requires-clause-small : goal.search_least-requires-clause-small
search_least-requires-clause-small c =
    let a = c.args.aim.now in
    let settled = rw (c.in-Timing.is, c.requires.wide) at c.in_ok-steps.ensures.settled in
    let judged = rw c.requires.wide at c.in_ok-steps.ensures.judged in
    small-below c.sizes_fall.ensures.fall c.skews_may_grow.ensures.grow a.log.now a.nodes.now c.args.widest.now.s _ _ settled.0 settled.1 judged.small

pub search_least-requires-clause-consistent : goal.search_least-requires-clause-consistent
search_least-requires-clause-consistent c = let settled = rw (c.in-Timing.is, c.requires.wide) at c.in_ok-steps.ensures.settled in record { timing = _; admissible = settled.0 }

pub returns-clause-asked : goal.returns-clause-asked
returns-clause-asked c = let judged = rw c.requires.wide at c.in_ok-steps.ensures.judged in record { hosts = c.args.aim.now.hosts; few = judged.nodes.few; small = judged.small }
