use Rattle.std.proofs.Common.{◌≡◌}
use Rattle.logic_table.specs.Runs.{IsHalted}
use Rattle.logic_table.proofs.runs.Run.descend.Given as goal

abbrev pub invariant-loop-lit : goal.invariant-loop-lit
invariant-loop-lit l = record {
  vars : l.self.trail.vars ≡ l.fn.self.trail.vars;
  halted : IsHalted l.db l.self.links l.self.trail l.self.graph l.reached;
}
