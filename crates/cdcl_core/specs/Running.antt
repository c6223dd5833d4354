-- What a search keeps.
use Rattle.std.specs.Prelude.{◌≡◌, ◌⊎◌, ℕ, ◌+◌, ◌<◌, ◌≤◌, List, length, All, Bool, Option}
use Rattle.mt_model.specs.declared.bound.Bound.{Bound}
use Rattle.mt_model.specs.Form.{Form}
use Rattle.mt_model.specs.Log.{Logged}
use Rattle.neg_cycle.specs.declared.system.Edge.{Edge}
use Rattle.skew_bounds.specs.Edges.{AreEdges}
use Rattle.difference_graph.specs.Graphs.{Constraints}
use Rattle.clause_db.specs.declared.lit.Lit.{Lit}
use Rattle.clause_db.specs.Clauses.{clause_at}
use Rattle.propagate.specs.Trails.{Assigned, IsTrail}
use Rattle.propagate.specs.Steps.{InStep, IsRefused, LacksLast}
use Rattle.propagate.specs.Reach.{IsConflict, IsLast}
use Rattle.propagate.specs.Closed.{Closed, ClosedAt}
use Rattle.analyze.specs.Asserting.{HasHere, HasTwoAbove}
use Rattle.axiom_rules.specs.declared.literal.Atom.{Atom}
use Rattle.cdcl_core.specs.declared.derived.Derived.{Derived}
use Rattle.cdcl_core.specs.declared.descent.Conflict.{Conflict}
use Rattle.cdcl_core.specs.declared.descent.Conflict.TheVariants as conflict
use Rattle.cdcl_core.specs.Recording.{KeepsRecord}

-- trail, clauses, links and graph are in step, and nothing is left to propagate below the present level
pub record IsRun (db : List (List Lit)) (links : List (Option (Edge × Edge))) (base : List Edge) (t : Assigned) (g : Constraints) : Type 0 where
  pub trail : IsTrail t
  pub step : InStep t db links base g
  pub closed : Closed t db

-- the edge of the last literal is missing, since it closes a walk of negative sum
pub record IsStuck (db : List (List Lit)) (links : List (Option (Edge × Edge))) (base : List Edge) (t : Assigned) (g : Constraints) (l : Lit) : Type 0 where
  pub trail : IsTrail t
  pub last : IsLast t l
  pub refused : IsRefused links l g
  pub step : LacksLast t db links base g
  pub closed : Closed t db

-- with any clauses over so many variables this is a run
abbrev pub IsRunWithAny : ℕ → List (Option (Edge × Edge)) → List Edge → Assigned → Constraints → Type 0
IsRunWithAny vars links base t g = (db : List (List Lit)) → All (All (λ l. l.var < vars)) db → IsRun db links base t g

-- a run over so many variables, which the links are of, and some base, with room for an edge of each variable
pub record IsRunning (many : ℕ) (db : List (List Lit)) (links : List (Option (Edge × Edge))) (t : Assigned) (g : Constraints) : Type 0 where
  pub base : List Edge
  pub vars : t.vars ≡ many
  pub linked : length links ≡ many
  pub room : length base + many ≤ g.capacity
  pub run : IsRun db links base t g

-- a run over a base of so many edges that is stuck
pub record IsStuckOver (edges : ℕ) (db : List (List Lit)) (links : List (Option (Edge × Edge))) (t : Assigned) (g : Constraints) : Type 0 where
  pub base : List Edge
  pub literal : Lit
  pub count : length base ≡ edges
  pub stuck : IsStuck db links base t g literal

-- where a descent stopped
abbrev pub HasStopped : List (List Lit) → List (Option (Edge × Edge)) → List Edge → Assigned → Constraints → Conflict → Type 0
HasStopped db links base t g (conflict.False c) = IsRun db links base t g × IsConflict t db c
HasStopped db links base t g (conflict.Refused l) = IsStuck db links base t g l

-- a clause is false, as `learn` and `refute` ask; a level below that leaves two of its literals open is closed
pub record IsConflicted (db : List (List Lit)) (links : List (Option (Edge × Edge))) (base : List Edge) (t : Assigned) (g : Constraints) (c : ℕ) : Type 0 where
  pub trail : IsTrail t
  pub step : InStep t db links base g ⊎ LacksLast t db links base g
  pub conflict : IsConflict t db c
  pub here : 0 < length t.levels → HasHere t (clause_at db c)
  pub closed : (m : ℕ) → m < length t.levels → HasTwoAbove t.entries m (clause_at db c) → ClosedAt t db m

-- where the run with the old clauses was stuck over a base of so many edges, this one of the new clauses is false
abbrev pub IsFalseWhereStuck : ℕ → List (List Lit) → List (List Lit) → List (Option (Edge × Edge)) → Assigned → Constraints → ℕ → Type 0
IsFalseWhereStuck edges old new links t g c = (base : List Edge) (l : Lit) → length base ≡ edges → IsStuck old links base t g l → IsConflicted new links base t g c

-- where the run with the old clauses was stuck over the edges of these bounds, the lines still derive, and later ones can cite the clauses
abbrev pub KeepsRecordWhereStuck : List Bound → List Atom → List (Option (Edge × Edge)) → Assigned → Constraints → Derived → Derived → Type 0
KeepsRecordWhereStuck bounds atoms links t g old new = (log : Logged) (f : Form) (v : Bool) (base : List Edge) (l : Lit)
    → AreEdges log bounds base → IsStuck old.db links base t g l → KeepsRecord log f v atoms old new
