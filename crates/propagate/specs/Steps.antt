-- What a run keeps between a trail, clauses, the edges of literals, and a graph.
use Rattle.std.specs.Prelude.{◌≡◌, ◌≢◌, ℕ, ◌+◌, ◌-◌, ◌<◌, ◌≤◌, List, [], ◌∷◌, ◌++◌, length, take, Option, Some, IfSome, IsSome, All, AllPairs}
use Rattle.neg_cycle.specs.declared.system.Edge.{Edge}
use Rattle.neg_cycle.specs.Systems.{IsEdge, IsNegativeCycle, VisitsOnce}
use Rattle.difference_graph.specs.Graphs.{Constraints}
use Rattle.clause_db.specs.declared.lit.Lit.{Lit}
use Rattle.propagate.specs.Links.{edge_of, edges_at, edges_of}
use Rattle.propagate.specs.Trails.{Assigned, IsUnassigned, literals, start_of, mark_of}
use Rattle.propagate.specs.Clauses.{HasReasons}
use Rattle.propagate.specs.Watched.{AreWatched}

-- the variables of the links are in range, and each edge meets the graph's conditions
pub record IsLinked (t : Assigned) (links : List (Option (Edge × Edge))) (g : Constraints) : Type 0 where
  pub variables : length links ≤ t.vars
  pub edges : (l : Lit) → IfSome (edge_of links l) (IsEdge g.nodes)

-- the mark of each level is the number of edges that the base and the literals before the level have
abbrev pub HasMarks : Assigned → List (Option (Edge × Edge)) → List Edge → Type 0
HasMarks t links base = (j : ℕ) → j < length t.levels → mark_of t.levels j ≡ length base + length (edges_of links (literals (take (start_of t.levels j) t.entries)))

-- trail, clauses, links and graph are in step, where the graph holds the edges of the base and then those of these literals
pub record IsInStep (held : List Lit) (t : Assigned) (db : List (List Lit)) (links : List (Option (Edge × Edge))) (base : List Edge) (g : Constraints) : Type 0 where
  pub reasons : HasReasons t db
  pub watched : AreWatched t db
  pub linked : IsLinked t links g
  pub edges : g.edges ≡ base ++ edges_of links held
  pub marks : HasMarks t links base

-- they are in step, where no edge is missing: the held edges are those of the base and then those of the trail's literals
abbrev pub InStep : Assigned → List (List Lit) → List (Option (Edge × Edge)) → List Edge → Constraints → Type 0
InStep t db links base g = IsInStep (literals t.entries) t db links base g

-- they are in step but for the edge of the last literal, which is missing
pub record LacksLast (t : Assigned) (db : List (List Lit)) (links : List (Option (Edge × Edge))) (base : List Edge) (g : Constraints) : Type 0 where
  pub some : 0 < length t.entries
  pub step : IsInStep (literals (take (length t.entries - 1) t.entries)) t db links base g

-- what is in step on these clauses and links by the old trail and graph is so by the new ones
abbrev pub KeepsStep : List (List Lit) → List (Option (Edge × Edge)) → Assigned × Constraints → Assigned × Constraints → Type 0
KeepsStep db links old new = (base : List Edge) → InStep old.0 db links base old.1 → InStep new.0 db links base new.1

-- what is in step on these clauses and links by the old trail and graph lacks the edge of the last literal by the new ones
abbrev pub LosesLast : List (List Lit) → List (Option (Edge × Edge)) → Assigned × Constraints → Assigned × Constraints → Type 0
LosesLast db links old new = (base : List Edge) → InStep old.0 db links base old.1 → LacksLast new.0 db links base new.1

-- what lacks the edge of the last literal by the old trail and graph is in step by the new ones
abbrev pub RegainsStep : Assigned × Constraints → Assigned × Constraints → Type 0
RegainsStep old new = (db : List (List Lit)) (links : List (Option (Edge × Edge))) (base : List Edge) → LacksLast old.0 db links base old.1 → InStep new.0 db links base new.1

-- however many different unassigned variables have edges, the graph has room for an edge of each
abbrev pub HasRoomFor : Assigned → List (Option (Edge × Edge)) → Constraints → Type 0
HasRoomFor t links g = (vars : List ℕ) → AllPairs (λ v w. v ≢ w) vars
    → All (λ v. (v < t.vars) × IsUnassigned t.entries v × IsSome (edges_at links v)) vars → length g.edges + length vars ≤ g.capacity

-- no level's mark is above the number of edges that are held
abbrev pub AreMarksHeld : Assigned → Constraints → Type 0
AreMarksHeld t g = (j : ℕ) → j < length t.levels → mark_of t.levels j ≤ length g.edges

-- the graph refused the literal's edge: with it the held edges have a closed walk of negative sum, which the graph gives
pub record IsRefused (links : List (Option (Edge × Edge))) (l : Lit) (g : Constraints) : Type 0 where
  pub edge : Edge
  pub of_literal : edge_of links l ≡ Some edge
  pub cycle : IsNegativeCycle (g.edges ++ edge ∷ []) g.cycle
  pub once : VisitsOnce (g.edges ++ edge ∷ []) g.cycle
