use Rattle.happened_before.specs.Progress.{IsProgress, waiting_count}
use Rattle.happened_before.proofs.progress.finish_all.Given as goal

abbrev pub invariant-events : goal.invariant-events
invariant-events l = IsProgress l.width l.hosts l.table l.progress

abbrev pub decreases-events : goal.decreases-events
decreases-events l = waiting_count l.progress.finished.items
