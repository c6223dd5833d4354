use Rattle.json_log.specs.Entries.{is_of_three}
use Rattle.json_log.proofs.Looking.{IsNoneBefore}
use Rattle.json_log.proofs.records.any_needs_three.Given as goal

abbrev pub invariant-loop-event : goal.invariant-loop-event
invariant-loop-event l = IsNoneBefore is_of_three l.events l.event-index
