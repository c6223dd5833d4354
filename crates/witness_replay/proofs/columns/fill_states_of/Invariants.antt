use Rattle.std.proofs.Common.{◌≡◌, ℕ, ◌<◌, ◌≤◌, length}
use Rattle.mt_model.specs.State.{state}
use Rattle.mt_model.specs.Timing.{time_of}
use Rattle.formula_arena.specs.declared.direction.Direction.TheVariants.{Ahead}
use Rattle.witness_replay.specs.Columns.{value_at}
use Rattle.witness_replay.specs.LatestChanges.{AreBy, IsLatest}
use Rattle.witness_replay.specs.Timelines.{moment_at, row_met}
use Rattle.witness_replay.proofs.columns.fill_states_of.Given as goal

abbrev pub invariant-loop-place : goal.invariant-loop-place
invariant-loop-place l = record {
  latest : IsLatest l.log l.moments l.proposition.host l.proposition.name.now l.latest;
  within : l.latest.places ≤ length l.moments;
  by : (k : ℕ) → l.place ≤ k → k < length l.timeline.times.now → AreBy l.moments (moment_at l.moments k).time l.latest.places;
  filled : (k : ℕ) → k < l.place → value_at l.column (row_met Ahead l.moments k) ≡ state l.log l.timeline.times.now (time_of l.timeline.times.now (row_met Ahead l.moments k)) l.proposition.host l.proposition.name.now;
}
