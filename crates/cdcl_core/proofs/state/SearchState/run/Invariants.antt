use Rattle.std.proofs.Common.{◌≡◌}
use Rattle.mtl_encode.specs.declared.problem.Problem.{Problem}
use Rattle.cdcl_core.specs.Searching.{IsSearch}
use Rattle.cdcl_core.proofs.state.SearchState.run.Given as goal

abbrev pub invariant-conflicts : goal.invariant-conflicts
invariant-conflicts l = record {
  theory : l.self.theory ≡ l.fn.self.theory;
  search : (p : Problem) → IsSearch p l.fn.self 0 → IsSearch p l.self l._conflict;
}
