use Rattle.std.proofs.Common.{arith}
use Rattle.std.proofs.lemmas.Result.{err_from_is_err_and}
use Rattle.serde_json.specs.View.{items_view, view}
use Rattle.json_log.specs.Entries.{event_records}
use Rattle.json_log.specs.JsonLogOf.{records_in}
use Rattle.json_log.proofs.Adding.{all-added, none-left, nothing-added, one-more, stops-whole}
use Rattle.json_log.proofs.records.add_events.Goals as goal

pub loop-event-init : goal.loop-event-init
loop-event-init c = nothing-added event_records c.args.events.now c.args.records.now

pub returns-in_err-add_event : goal.returns-in_err-add_event
returns-in_err-add_event c =
    let p = err_from_is_err_and c.from_residual.result c.from_residual.ensures.1 in
    let none =
    none-left event_records c.args.events.now c.loop-event.event-index c.event-item.result c.loop-event-test.true c.event-item.is c.args.records.now c.loop-event.records c.loop-event.invariant in
    rw (p.1, p.2) (stops-whole (event_records (view c.event-item.result)) (records_in event_records (items_view c.args.events.now)) c.in_err-add_event.field-0.0 none c.in_err-add_event.ensures)

pub loop-event-preserved : goal.loop-event-preserved
loop-event-preserved c =
    let added = c.in_ok-add_event.ensures in
    one-more event_records c.args.events.now c.loop-event.event-index c.event-item.result c.loop-event-test.true c.event-item.is c.args.records.now
    c.loop-event.records c.loop-event.invariant added.0 c.add_event.new.records added.1 added.2

pub returns : goal.returns
returns c = all-added event_records c.args.events.now c.loop-event.event-index c.args.records.now c.loop-event.records (omega (arith, c.loop-event-test.false)) c.loop-event.invariant
