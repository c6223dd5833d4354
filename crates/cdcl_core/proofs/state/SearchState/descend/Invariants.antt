use Rattle.std.proofs.Common.{◌≡◌, ℕ, ◌-◌, ◌<◌, length}
use Rattle.propagate.specs.Trails.{IsUnassigned}
use Rattle.mtl_encode.specs.declared.problem.Problem.{Problem}
use Rattle.cdcl_core.specs.Searching.{IsSearch}
use Rattle.cdcl_core.specs.Turns.{IsUnderWay}
use Rattle.cdcl_core.proofs.state.SearchState.descend.Given as goal

abbrev pub invariant-decisions : goal.invariant-decisions
invariant-decisions l = record {
  under_way : IsUnderWay l.self;
  theory : l.self.theory ≡ l.fn.self.theory;
  before : (w : ℕ) → w < l.start → IsUnassigned l.self.trail.entries w → ⊥;
  search : (p : Problem) (n : ℕ) → IsSearch p l.fn.self n → IsSearch p l.self n;
}

abbrev pub decreases-decisions : goal.decreases-decisions
decreases-decisions l = l.self.trail.vars - length l.self.trail.entries
