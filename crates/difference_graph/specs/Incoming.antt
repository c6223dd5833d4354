-- Edges in order, with a mark for each node and each edge by which those are found that end at a node, the last one first.
use Rattle.std.specs.Prelude.{◌≡◌, ◌≢◌, ℕ, ◌-◌, ◌<◌, ◌≤◌, List, length, slice_index, All}
use Rattle.neg_cycle.specs.declared.system.Edge.{Edge}
use Rattle.neg_cycle.specs.Systems.{edge_at}

-- of the first n edges, the last one that ends at the node is the one just before the mark; none does where the mark is 0
pub record IsLastMark (edges : List Edge) (n node mark : ℕ) : Type 0 where
  pub within : mark ≤ n
  pub ends : 0 < mark → (edge_at edges (mark - 1)).to ≡ node
  pub none : (q : ℕ) → mark ≤ q → q < n → (edge_at edges q).to ≢ node

-- each node has the mark of the last edge that ends there, and each edge that of the last one before it that ends where it does
pub record AreIncoming (edges : List Edge) (last before : List ℕ) : Type 0 where
  pub count : length before ≡ length edges
  pub ends : All (λ e. e.to < length last) edges
  pub nodes : (v : ℕ) → v < length last → IsLastMark edges (length edges) v (slice_index last v)
  pub places : (p : ℕ) → p < length edges → IsLastMark edges p (edge_at edges p).to (slice_index before p)
