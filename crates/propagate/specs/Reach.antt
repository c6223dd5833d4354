-- What propagation does to a trail and a graph.
use Rattle.std.specs.Prelude.{◌≡◌, ℕ, ◌+◌, ◌<◌, ◌≤◌, List, length, take, IsSome}
use Rattle.std.specs.declared.result.Result.{Result}
use Rattle.std.specs.declared.result.Result.TheVariants.{Ok, Err}
use Rattle.difference_graph.specs.Graphs.{Constraints, HasSameLimits}
use Rattle.clause_db.specs.declared.lit.Lit.{Lit}
use Rattle.clause_db.specs.Clauses.{clause_at}
use Rattle.propagate.specs.declared.linked_clauses.LinkedClauses.{LinkedClauses}
use Rattle.propagate.specs.declared.propagation.Reached.{Reached}
use Rattle.propagate.specs.declared.propagation.Reached.TheVariants as reached
use Rattle.propagate.specs.declared.stop.Stop.{Stop}
use Rattle.propagate.specs.declared.stop.Stop.TheVariants as stop
use Rattle.propagate.specs.Trails.{Assigned, IsTrail, entry_at}
use Rattle.propagate.specs.Clauses.{HasReasons, IsFalsified}
use Rattle.propagate.specs.Watched.{AreWatched}
use Rattle.propagate.specs.Best.{AreLastToFallFrom}
use Rattle.propagate.specs.Closed.{Closed}
use Rattle.propagate.specs.Steps.{HasRoomFor, IsLinked, IsRefused, KeepsStep, LosesLast}

-- literals of the present level were added, each with a reason
pub record IsGrown (old new : Assigned) : Type 0 where
  pub vars : new.vars ≡ old.vars
  pub levels : new.levels ≡ old.levels
  pub longer : length old.entries ≤ length new.entries
  pub kept : take (length old.entries) new.entries ≡ old.entries
  pub added : (k : ℕ) → length old.entries ≤ k → k < length new.entries → ((entry_at new.entries k).level ≡ length old.levels) × IsSome (entry_at new.entries k).reason

-- the graph has its old limits and its old edges, and perhaps more
pub record IsExtended (old new : Constraints) : Type 0 where
  pub limits : HasSameLimits old new
  pub longer : length old.edges ≤ length new.edges
  pub kept : take (length old.edges) new.edges ≡ old.edges

-- the literal is the last of the trail
pub record IsLast (t : Assigned) (l : Lit) : Type 0 where
  pub place : ℕ
  pub is_last : length t.entries ≡ place + 1
  pub is : (entry_at t.entries place).lit ≡ l

-- the fact holds, where propagation ended quietly
abbrev pub IfQuiet : Reached → Type 0 → Type 0
IfQuiet reached.Quiet P = P
IfQuiet (reached.ClauseConflict c) P = Unit {0}
IfQuiet (reached.TheoryConflict l) P = Unit {0}

-- the fact holds of the clause, where it ended with a clause
abbrev pub IfClause : Reached → (ℕ → Type 0) → Type 0
IfClause reached.Quiet P = Unit {0}
IfClause (reached.ClauseConflict c) P = P c
IfClause (reached.TheoryConflict l) P = Unit {0}

-- the fact holds of the literal, where it ended with a refused edge
abbrev pub IfTheory : Reached → (Lit → Type 0) → Type 0
IfTheory reached.Quiet P = Unit {0}
IfTheory (reached.ClauseConflict c) P = Unit {0}
IfTheory (reached.TheoryConflict l) P = P l

-- the fact holds, unless propagation ended with a refused edge
abbrev pub UnlessTheory : Reached → Type 0 → Type 0
UnlessTheory reached.Quiet P = P
UnlessTheory (reached.ClauseConflict c) P = P
UnlessTheory (reached.TheoryConflict l) P = Unit {0}

-- the fact holds, unless propagation ended quietly
abbrev pub UnlessQuiet : Reached → Type 0 → Type 0
UnlessQuiet reached.Quiet P = Unit {0}
UnlessQuiet (reached.ClauseConflict c) P = P
UnlessQuiet (reached.TheoryConflict l) P = P

-- what propagation over clauses asks of a trail and a graph, and keeps as it goes on
pub record IsAtWork (clauses : LinkedClauses) (t : Assigned) (g : Constraints) : Type 0 where
  pub trail : IsTrail t
  pub reasons : HasReasons t clauses.db.now
  pub watched : AreWatched t clauses.db.now
  pub closed : Closed t clauses.db.now
  pub linked : IsLinked t clauses.links.now g
  pub room : HasRoomFor t clauses.links.now g

-- how propagation over clauses goes on, from a trail with its graph to later ones
pub record IsProgress (clauses : LinkedClauses) (old new : Assigned × Constraints) : Type 0 where
  pub work : IsAtWork clauses new.0 new.1
  pub grown : IsGrown old.0 new.0
  pub known : length old.0.watching.watches ≤ length new.0.watching.watches
  pub last : (n : ℕ) → AreLastToFallFrom n old.0 clauses.db.now → AreLastToFallFrom n new.0 clauses.db.now
  pub extended : IsExtended old.1 new.1
  pub in_step : KeepsStep clauses.db.now clauses.links.now old new

-- what is so where the literal's edge was refused
pub record IsStopped (clauses : LinkedClauses) (old : Assigned × Constraints) (l : Lit) (new : Assigned × Constraints) : Type 0 where
  pub reasons : HasReasons new.0 clauses.db.now
  pub watched : AreWatched new.0 clauses.db.now
  pub grown : IsGrown old.0 new.0
  pub extended : IsExtended old.1 new.1
  pub last : IsLast new.0 l
  pub refused : IsRefused clauses.links.now l new.1
  pub lacks_last : LosesLast clauses.db.now clauses.links.now old new

-- a clause that is false
pub record IsConflict (t : Assigned) (db : List (List Lit)) (c : ℕ) : Type 0 where
  pub held : c < length db
  pub falsified : IsFalsified t.entries (clause_at db c)

-- what is so where propagation stopped
abbrev pub HasStopped : LinkedClauses → Assigned × Constraints → Stop → Assigned × Constraints → Type 0
HasStopped clauses old (stop.Clause c) new = IsProgress clauses old new × IsConflict new.0 clauses.db.now c
HasStopped clauses old (stop.Theory l) new = IsStopped clauses old l new
HasStopped clauses old stop.Memory new = IsProgress clauses old new

-- how propagation went on, or where it stopped
abbrev pub IsReached : {T : Type 0} → LinkedClauses → Assigned × Constraints → Result T Stop → Assigned × Constraints → Type 0
IsReached clauses old (Ok x) new = IsProgress clauses old new
IsReached clauses old (Err s) new = HasStopped clauses old s new

-- this is told of a stop
abbrev pub IsToldAs : Stop → Reached → Type 0
IsToldAs (stop.Clause c) r = r ≡ reached.ClauseConflict c
IsToldAs (stop.Theory l) r = r ≡ reached.TheoryConflict l
IsToldAs stop.Memory r = ⊥
