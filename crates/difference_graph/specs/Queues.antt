-- Edges that numbers miss, and that wait until a number is lowered for them.
use Rattle.std.specs.Prelude.{◌≡◌, ◌≢◌, ◌⊎◌, ℕ, ◌<◌, ◌≤◌, List, ◌∷◌, length, All, Contains, IsPermutation, ℤ, pos, ◌+ℤ◌, ◌-ℤ◌, ◌≤ℤ◌, ◌<ℤ◌, eqb}
use Rattle.std.specs.BinaryHeap.{IsHeap}
use Rattle.std.specs.List.{IsDistinct}
use Rattle.std.specs.Ordering.{int_cmp, nat_cmp, ordering_then}
use Rattle.std.specs.declared.cmp.Ordering.{Ordering}
use Rattle.neg_cycle.specs.declared.system.Edge.{Edge}
use Rattle.neg_cycle.specs.Systems.{edge_at}
use Rattle.difference_graph.specs.declared.waiting.Missed.{Missed}
use Rattle.difference_graph.specs.Repairs.{slack, IsTightest}

-- the edge at the place, with how far the numbers miss it
abbrev pub entry_of : List Edge → List ℤ → ℕ → Missed
entry_of edges numbers place = record { by = pos 0 -ℤ slack numbers (edge_at edges place); place = place }

-- the numbers miss the edge at the place, which begins at the end
pub record IsClosing (edges : List Edge) (numbers : List ℤ) (end place : ℕ) : Type 0 where
  pub within : place < length edges
  pub missed : slack numbers (edge_at edges place) <ℤ pos 0
  pub begins : (edge_at edges place).from ≡ end

-- the edge at the place waits now too, if the numbers miss it; it does not begin at the end then
abbrev pub IsEnqueued : List Edge → List ℤ → ℕ → ℕ → List Missed → List Missed → Type 0
IsEnqueued edges numbers end place old new =
    ((pos 0 ≤ℤ slack numbers (edge_at edges place)) × (new ≡ old)) ⊎ ((slack numbers (edge_at edges place) <ℤ pos 0) × ((edge_at edges place).from ≢ end) × IsPermutation (entry_of edges numbers place ∷ old) new)

-- the one that is missed by less first, and of two that are missed by as much the one that stands first
abbrev pub compared : Missed → Missed → Ordering
compared x y = ordering_then (int_cmp x.by y.by) (nat_cmp x.place y.place)

-- in the order of a heap, with one that is missed by most at the top
abbrev pub IsOrdered : List Missed → Type 0
IsOrdered waiting = IsHeap compared waiting

-- it waits for one of the edges, which the numbers miss by as much as it says, or meet
pub record IsWaiting (edges : List Edge) (numbers : List ℤ) (w : Missed) : Type 0 where
  pub within : w.place < length edges
  pub by : (w.by +ℤ slack numbers (edge_at edges w.place) ≡ pos 0) ⊎ (pos 0 ≤ℤ slack numbers (edge_at edges w.place))

-- no edge waits twice
abbrev pub WaitsOnce : List Missed → Type 0
WaitsOnce waiting = IsDistinct (λ x y. eqb x.place y.place) waiting

-- each edge waits once that the numbers miss, but for those that end at the node and stand before a mark
pub record IsQueue (edges : List Edge) (numbers : List ℤ) (node mark : ℕ) (waiting : List Missed) : Type 0 where
  pub each : All (IsWaiting edges numbers) waiting
  pub once : WaitsOnce waiting
  pub behind : All (λ w. (edge_at edges w.place).to ≡ node → mark ≤ w.place) waiting
  pub waits : (q : ℕ) → q < length edges → slack numbers (edge_at edges q) <ℤ pos 0 → (((edge_at edges q).to ≡ node) × (q < mark)) ⊎ Contains waiting (entry_of edges numbers q)

-- each edge waits once that the numbers miss, but for the one at the place
pub record IsRest (edges : List Edge) (numbers : List ℤ) (place : ℕ) (waiting : List Missed) : Type 0 where
  pub each : All (IsWaiting edges numbers) waiting
  pub once : WaitsOnce waiting
  pub waits : (q : ℕ) → q < length edges → slack numbers (edge_at edges q) <ℤ pos 0 → (q ≡ place) ⊎ Contains waiting (entry_of edges numbers q)

-- the numbers miss the edge at the place, and no edge has less slack
pub record IsNext (edges : List Edge) (numbers : List ℤ) (place : ℕ) : Type 0 where
  pub tightest : IsTightest edges numbers place
  pub missed : slack numbers (edge_at edges place) <ℤ pos 0

-- it waited before, or it is for an edge that ends at the node and does not begin at the end
abbrev pub IsAdded : List Edge → ℕ → ℕ → List Missed → Missed → Type 0
IsAdded edges node end old w = (((edge_at edges w.place).to ≡ node) × ((edge_at edges w.place).from ≢ end)) ⊎ Contains old w
