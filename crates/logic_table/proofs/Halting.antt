-- Where propagation has ended.
use Rattle.std.proofs.Common.{◌≡◌, List, [], Option, length, arith}
use Rattle.neg_cycle.specs.declared.system.Edge.{Edge}
use Rattle.difference_graph.specs.Graphs.{Constraints}
use Rattle.clause_db.specs.declared.lit.Lit.{Lit}
use Rattle.propagate.specs.declared.propagation.Reached.{Reached}
use Rattle.propagate.specs.declared.propagation.Reached.TheVariants as reached
use Rattle.propagate.specs.Clauses.{HasReasons}
use Rattle.propagate.specs.Closed.{Closed, ClosedAt}
use Rattle.propagate.specs.Laws.{StepHoldsMarks}
use Rattle.propagate.specs.Reach.{IfClause, IfQuiet, IfTheory, IsConflict, UnlessTheory}
use Rattle.propagate.specs.Steps.{InStep, LacksLast}
use Rattle.propagate.specs.Trails.{Assigned, IsTrail}
use Rattle.logic_table.specs.Runs.{IsHalted, IsReady}

-- propagation that begins where all is ready ends so
pub halted : (db : List (List Lit)) (links : List (Option (Edge × Edge))) (t u : Assigned) (g h : Constraints) (r : Reached) → StepHoldsMarks
    → IsReady db links t g → IsTrail u → HasReasons u db → Closed u db → u.vars ≡ t.vars → h.capacity ≡ g.capacity
    → UnlessTheory r ((base : List Edge) → InStep t db links base g → InStep u db links base h)
    → IfTheory r (λ _. (base : List Edge) → InStep t db links base g → LacksLast u db links base h)
    → IfQuiet r (ClosedAt u db (length u.levels)) → IfClause r (IsConflict u db) → IsHalted db links u h r
halted db links t u g h reached.Quiet law ready trail reasons closed vars capacity in_step lacks settled conflict = record {
  reasons = reasons;
  closed = closed;
  marks = law.in_step u db links [] h trail (in_step [] ready.step);
  ready = record { step = in_step [] ready.step; closed = closed; room = let room = ready.room in omega (arith, room, vars, capacity) };
  settled = settled;
  conflict = tt;
}
halted db links t u g h (reached.ClauseConflict c) law ready trail reasons closed vars capacity in_step lacks settled conflict = record {
  reasons = reasons;
  closed = closed;
  marks = law.in_step u db links [] h trail (in_step [] ready.step);
  ready = tt;
  settled = tt;
  conflict = conflict;
}
halted db links t u g h (reached.TheoryConflict l) law ready trail reasons closed vars capacity in_step lacks settled conflict = record {
  reasons = reasons;
  closed = closed;
  marks = law.lacks_last u db links [] h trail (lacks [] ready.step);
  ready = tt;
  settled = tt;
  conflict = tt;
}
