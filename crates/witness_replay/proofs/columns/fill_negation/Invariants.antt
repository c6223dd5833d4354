use Rattle.std.proofs.Common.{◌≡◌, ℕ, ◌<◌, not}
use Rattle.witness_replay.specs.Columns.{value_at}
use Rattle.witness_replay.proofs.columns.fill_negation.Given as goal

abbrev pub invariant-loop-e : goal.invariant-loop-e
invariant-loop-e l = (k : ℕ) → k < l.e → value_at l.column k ≡ not (value_at l.side k)
