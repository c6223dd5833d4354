use Rattle.std.proofs.Common.{◌≡◌, ℕ, ◌<◌, ◌≤◌, true, false, length}
use Rattle.witness_replay.specs.Columns.{reaches_from, value_at}
use Rattle.witness_replay.specs.Sweeps.{AreFar, IsSwept, is_hit}
use Rattle.witness_replay.specs.Timelines.{row_met}
use Rattle.witness_replay.proofs.columns.fill_reaches.Given as goal

abbrev pub invariant-loop-place : goal.invariant-loop-place
invariant-loop-place l = record {
  gaps : IsSwept (is_hit l.direction l.moments false l.left) (length l.times) l.gaps;
  witnesses : IsSwept (is_hit l.direction l.moments true l.right) (length l.times) l.witnesses;
  gaps_far : (p : ℕ) → p < l.place → AreFar l.direction l.times l.moments 0 (row_met l.direction l.moments p) l.gaps.place;
  witnesses_far : (p : ℕ) → p < l.place → AreFar l.direction l.times l.moments l.operator.interval.low (row_met l.direction l.moments p) l.witnesses.place;
  filled : (k : ℕ) → l.place ≤ k → k < length l.times
      → value_at l.column (row_met l.direction l.moments k) ≡ reaches_from l.direction l.times l.operator.interval l.left l.right (row_met l.direction l.moments k);
}
