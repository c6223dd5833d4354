use Rattle.std.proofs.Common.{◌≡◌, ℕ, ◌<◌}
use Rattle.witness_replay.specs.Timelines.{moment_at, moment_of}
use Rattle.witness_replay.proofs.timeline.place_rows.Given as goal

abbrev pub invariant-loop-row : goal.invariant-loop-row
invariant-loop-row l = (e : ℕ) → e < l.row → moment_at l.moments e ≡ moment_of l.times e
