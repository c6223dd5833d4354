use Rattle.std.proofs.Common.{ℕ, ◌<◌}
use Rattle.propagate.specs.Trails.{IsUnassigned}
use Rattle.cdcl_core.proofs.assignment.unassigned.Given as goal

abbrev pub invariant-loop-v : goal.invariant-loop-v
invariant-loop-v l = (k : ℕ) → k < l.v → IsUnassigned l.trail.entries k → ⊥
