use Rattle.std.proofs.Common.{ℕ, ◌<◌, length, ◌≤ℤ◌}
use Rattle.mt_model.specs.Timing.{time_of}
use Rattle.witness_replay.proofs.evaluator.first_row.Given as goal

abbrev pub invariant-loop-e : goal.invariant-loop-e
invariant-loop-e l = record {
  within : l.first < length l.times;
  least : (k : ℕ) → k < l.e → time_of l.times l.first ≤ℤ time_of l.times k;
}
