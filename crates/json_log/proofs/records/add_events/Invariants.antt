use Rattle.json_log.specs.Entries.{event_records}
use Rattle.json_log.proofs.Adding.{IsAddedUpTo}
use Rattle.json_log.proofs.records.add_events.Given as goal

abbrev pub invariant-loop-event : goal.invariant-loop-event
invariant-loop-event l = IsAddedUpTo event_records l.events l.event-index l.fn.records l.records
