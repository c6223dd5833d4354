-- Systems of difference constraints, their potentials, and walks over their edges. An edge says that the number of its
-- first end less that of its last is at most its bound; a walk goes from the first end to the last.
use Rattle.std.specs.Prelude.{◌≡◌, ◌≢◌, ℕ, ◌<◌, ◌≤◌, List, [], ◌∷◌, length, slice_index_or, All, AllPairs, ℤ, pos, ◌+ℤ◌, ◌-ℤ◌, ◌≤ℤ◌, ◌<ℤ◌}
use Rattle.neg_cycle.specs.declared.system.Edge.{Edge}
use Rattle.neg_cycle.specs.declared.system.TheConstants.{MAX_NODES, MAX_EDGES, MAX_BOUND}
use Rattle.neg_cycle.specs.declared.outcome.Outcome.{Outcome}
use Rattle.neg_cycle.specs.declared.outcome.Outcome.TheVariants.{Potential, Cycle}

-- from -n to n
pub record IsWithin (n x : ℤ) : Type 0 where
  pub low : pos 0 ≤ℤ (x +ℤ n)
  pub high : x ≤ℤ n

-- the ends of the edge are among so many nodes, which count from 0, and its bound is within the limit
pub record IsEdge (nodes : ℕ) (e : Edge) : Type 0 where
  pub from : e.from < nodes
  pub to : e.to < nodes
  pub bound : IsWithin MAX_BOUND e.bound

-- a system within the limits
pub record IsSystem (nodes : ℕ) (edges : List Edge) : Type 0 where
  pub few_nodes : nodes ≤ MAX_NODES
  pub few_edges : length edges ≤ MAX_EDGES
  pub each : All (IsEdge nodes) edges

-- the number of a node
abbrev pub number_of : List ℤ → ℕ → ℤ
number_of numbers node = slice_index_or numbers node (pos 0)

-- the number of the edge's first end, less that of its last, is at most its bound
abbrev pub Meets : List ℤ → Edge → Type 0
Meets numbers e = (number_of numbers e.from -ℤ number_of numbers e.to) ≤ℤ e.bound

-- one number a node, and they meet every edge
pub record IsPotential (nodes : ℕ) (edges : List Edge) (numbers : List ℤ) : Type 0 where
  pub count : length numbers ≡ nodes
  pub meets : All (Meets numbers) edges

-- the edge at a place
abbrev pub edge_at : List Edge → ℕ → Edge
edge_at edges place = slice_index_or edges place (record { from = 0; to = 0; bound = pos 0 })

-- each place has an edge that begins where the one before ends, the first at node a, and the last ends at node b
abbrev pub LeadsTo : List Edge → ℕ → List ℕ → ℕ → Type 0
LeadsTo edges a [] b = a ≡ b
LeadsTo edges a (p ∷ ps) b = (p < length edges) × ((edge_at edges p).from ≡ a) × LeadsTo edges (edge_at edges p).to ps b

-- at least one edge, each begins where the one before ends, and the first begins where the last ends
abbrev pub IsClosedWalk : List Edge → List ℕ → Type 0
IsClosedWalk edges [] = ⊥
IsClosedWalk edges (p ∷ ps) = LeadsTo edges (edge_at edges p).from (p ∷ ps) (edge_at edges p).from

-- the bounds of the edges at these places, added up
abbrev pub sum_of_bounds : List Edge → List ℕ → ℤ
sum_of_bounds edges [] = pos 0
sum_of_bounds edges (p ∷ ps) = (edge_at edges p).bound +ℤ sum_of_bounds edges ps

-- a closed walk of negative sum
pub record IsNegativeCycle (edges : List Edge) (places : List ℕ) : Type 0 where
  pub closed : IsClosedWalk edges places
  pub negative : sum_of_bounds edges places <ℤ pos 0

-- no two edges of the walk begin at one node
abbrev pub VisitsOnce : List Edge → List ℕ → Type 0
VisitsOnce edges places = AllPairs (λ p q. (edge_at edges p).from ≢ (edge_at edges q).from) places

-- no bound has a magnitude above b
abbrev pub HasBoundsWithin : ℕ → List Edge → Type 0
HasBoundsWithin b edges = All (λ e. IsWithin (pos b) e.bound) edges

-- the fact holds of the numbers, if the outcome is a potential
abbrev pub IfPotential : Outcome → (List ℤ → Type 0) → Type 0
IfPotential (Potential numbers) P = P numbers
IfPotential (Cycle places) P = Unit {0}

-- the fact holds of the places, if the outcome is a cycle
abbrev pub IfCycle : Outcome → (List ℕ → Type 0) → Type 0
IfCycle (Potential numbers) P = Unit {0}
IfCycle (Cycle places) P = P places
