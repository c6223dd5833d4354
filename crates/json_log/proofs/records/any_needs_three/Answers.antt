use Rattle.std.proofs.Common.{◌∙◌, sym, arith}
use Rattle.json_log.specs.Entries.{is_of_three}
use Rattle.json_log.proofs.Looking.{none-here, none-passes, passes-here}
use Rattle.json_log.proofs.records.any_needs_three.Goals as goal

pub returns-then-needs_three : goal.returns-then-needs_three
returns-then-needs_three c =
    sym
    (passes-here is_of_three c.args.events.now c.loop-event.event-index c.event-item.result c.loop-event-test.true c.event-item.is c.loop-event.invariant
    (sym c.needs_three.ensures ∙ c.if-needs_three.true))

pub loop-event-preserved : goal.loop-event-preserved
loop-event-preserved c =
    none-here is_of_three c.args.events.now c.loop-event.event-index c.event-item.result c.loop-event-test.true c.event-item.is c.loop-event.invariant
    (sym c.needs_three.ensures ∙ c.if-needs_three.false)

pub returns : goal.returns
returns c = sym (none-passes is_of_three c.args.events.now c.loop-event.event-index (omega (arith, c.loop-event-test.false)) c.loop-event.invariant)
