-- Laws of trails, clauses and graphs that are in step.
use Rattle.std.specs.Prelude.{◌≡◌, ℕ, ◌+◌, ◌<◌, ◌≤◌, List, [], ◌∷◌, ◌++◌, length, replicate, set, Option, Some, None, All}
use Rattle.neg_cycle.specs.declared.system.Edge.{Edge}
use Rattle.neg_cycle.specs.Systems.{IsEdge}
use Rattle.difference_graph.specs.Graphs.{Constraints}
use Rattle.clause_db.specs.declared.lit.Lit.{Lit}
use Rattle.propagate.specs.Trails.{Assigned, IsTrail, IsUnassigned}
use Rattle.propagate.specs.Steps.{InStep, IsLinked, LacksLast, HasRoomFor, AreMarksHeld}

-- a trail without literals and levels that watches no clause is in step with clauses and links that fit and a graph that holds the base
abbrev pub NewTrailIsInStep : Type 0
NewTrailIsInStep = (t : Assigned) (db : List (List Lit)) (links : List (Option (Edge × Edge))) (base : List Edge) (g : Constraints) → t.entries ≡ [] → t.levels ≡ [] → t.watching.watches ≡ []
    → All (All (λ l. l.var < t.vars)) db → IsLinked t links g → g.edges ≡ base → InStep t db links base g

-- a clause over the trail's variables may be added
pub record AddedClauseKeepsStep : Type 0 where
  pub in_step : (t : Assigned) (db : List (List Lit)) (clause : List Lit) (links : List (Option (Edge × Edge))) (base : List Edge) (g : Constraints) → All (λ l. l.var < t.vars) clause
      → InStep t db links base g → InStep t (db ++ clause ∷ []) links base g
  pub lacks_last : (t : Assigned) (db : List (List Lit)) (clause : List Lit) (links : List (Option (Edge × Edge))) (base : List Edge) (g : Constraints) → All (λ l. l.var < t.vars) clause
      → LacksLast t db links base g → LacksLast t (db ++ clause ∷ []) links base g

-- marks are within the edges that are held
pub record StepHoldsMarks : Type 0 where
  pub in_step : (t : Assigned) (db : List (List Lit)) (links : List (Option (Edge × Edge))) (base : List Edge) (g : Constraints) → IsTrail t → InStep t db links base g → AreMarksHeld t g
  pub lacks_last : (t : Assigned) (db : List (List Lit)) (links : List (Option (Edge × Edge))) (base : List Edge) (g : Constraints) → IsTrail t → LacksLast t db links base g → AreMarksHeld t g

-- a graph with room for the base and an edge of each variable has room for the edges of a trail in step with it: for those of
-- all unassigned variables, as propagation asks, and for the next one, as a decision does
pub record RoomForAllIsRoom : Type 0 where
  pub each : (t : Assigned) (db : List (List Lit)) (links : List (Option (Edge × Edge))) (base : List Edge) (g : Constraints) → IsTrail t → InStep t db links base g
      → length base + t.vars ≤ g.capacity → HasRoomFor t links g
  pub next : (t : Assigned) (db : List (List Lit)) (links : List (Option (Edge × Edge))) (base : List Edge) (g : Constraints) (v : ℕ) → IsTrail t → InStep t db links base g
      → length base + t.vars ≤ g.capacity → v < t.vars → IsUnassigned t.entries v → length g.edges < g.capacity

-- links without edges are those of a trail over at least as many variables, and stay so where edges that meet the graph's
-- conditions are set
pub record SetLinksAreLinked : Type 0 where
  pub none : (t : Assigned) (n : ℕ) (g : Constraints) → n ≤ t.vars → IsLinked t (replicate n None) g
  pub after : (t : Assigned) (links : List (Option (Edge × Edge))) (g : Constraints) (v : ℕ) (yes_edge no_edge : Edge) → IsEdge g.nodes yes_edge → IsEdge g.nodes no_edge → IsLinked t links g
      → IsLinked t (set links v (Some (yes_edge, no_edge))) g
