use Rattle.std.proofs.Common.{◌≡◌, ℕ, ◌<◌, ◌≤◌, List, length, ℤ, ◌+ℤ◌}
use Rattle.neg_cycle.specs.Systems.{number_of}
use Rattle.skew_bounds.proofs.column.end_of_own.Given as goal

abbrev pub decreases-loop-end : goal.decreases-loop-end
decreases-loop-end l = l.end

pub record Invariant (zero numbers : List ℤ) (raise : ℤ) (end : ℕ) : Type 0 where
  pub within : end ≤ length numbers
  pub moved : (i : ℕ) → end ≤ i → i < length numbers → number_of numbers i ≡ number_of zero i +ℤ raise

abbrev pub invariant-loop-end : goal.invariant-loop-end
invariant-loop-end l = Invariant l.zero l.numbers l.raise l.end
