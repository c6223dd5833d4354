use Rattle.std.proofs.Common.{◌≡◌, ℕ, ◌<◌, ◌+ℤ◌}
use Rattle.neg_cycle.specs.Systems.{number_of}
use Rattle.skew_bounds.proofs.column.start_of_own.Given as goal

abbrev pub invariant-loop-node : goal.invariant-loop-node
invariant-loop-node l = (i : ℕ) → i < l.node → number_of l.numbers i ≡ number_of l.zero i +ℤ l.raise
