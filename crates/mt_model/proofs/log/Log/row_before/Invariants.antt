use Rattle.std.proofs.Common.{◌≡◌, ◌==◌}
use Rattle.mt_model.specs.Timing.{host_of, last_below, previous_row}
use Rattle.mt_model.proofs.log.Log.row_before.Given as goal

abbrev pub invariant-loop-e : goal.invariant-loop-e
invariant-loop-e l = previous_row l.self l.f ≡ last_below (λ k. host_of l.self k == host_of l.self l.f) l.e
