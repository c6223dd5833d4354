-- Trails that are in step with clauses, edges of variables and a graph.
use Rattle.std.specs.Prelude.{◌≤◌, List, [], Option, length}
use Rattle.neg_cycle.specs.declared.system.Edge.{Edge}
use Rattle.difference_graph.specs.Graphs.{Constraints}
use Rattle.clause_db.specs.declared.lit.Lit.{Lit}
use Rattle.propagate.specs.declared.propagation.Reached.{Reached}
use Rattle.propagate.specs.Clauses.{HasReasons}
use Rattle.propagate.specs.Closed.{Closed, ClosedAt}
use Rattle.propagate.specs.Reach.{IfClause, IfQuiet, IsConflict}
use Rattle.propagate.specs.Steps.{AreMarksHeld, InStep}
use Rattle.propagate.specs.Trails.{Assigned}

-- all are in step over no base, the levels below the present one leave nothing to propagate, and the graph has room for an
-- edge of each variable
pub record IsReady (db : List (List Lit)) (links : List (Option (Edge × Edge))) (t : Assigned) (g : Constraints) : Type 0 where
  pub step : InStep t db links [] g
  pub closed : Closed t db
  pub room : t.vars ≤ g.capacity

-- where propagation has ended: each literal that isn't a decision has a reason, the levels below the present one leave nothing
-- to propagate, and levels can be undone; at Quiet all is ready, and the present level leaves nothing; and a clause with which
-- it ended is false
pub record IsHalted (db : List (List Lit)) (links : List (Option (Edge × Edge))) (t : Assigned) (g : Constraints) (r : Reached) : Type 0 where
  pub reasons : HasReasons t db
  pub closed : Closed t db
  pub marks : AreMarksHeld t g
  pub ready : IfQuiet r (IsReady db links t g)
  pub settled : IfQuiet r (ClosedAt t db (length t.levels))
  pub conflict : IfClause r (IsConflict t db)
