-- The edges of a system by the nodes where they end.
use Rattle.std.specs.Prelude.{◌≡◌, ◌==◌, ℕ, ◌<◌, List, [], length, map, slice_index_or, All, ℤ, pos, ◌-ℤ◌, ◌≤ℤ◌, Vec}
use Rattle.std.specs.declared.alloc.Global.{Global}
use Rattle.std.specs.List.{filter}
use Rattle.mt_model.specs.Log.{IsWithin}
use Rattle.mt_model.specs.declared.limits.TheConstants.{MAX_TIME}
use Rattle.neg_cycle.specs.declared.system.Edge.{Edge}
use Rattle.neg_cycle.specs.Systems.{IsEdge, Meets, number_of}

-- the items of lists, list by list
abbrev pub lists_of : List (Vec Edge Global) → List (List Edge)
lists_of lists = map (λ list. list.items) lists

-- the edges that end at a node
abbrev pub ending_at : List (List Edge) → ℕ → List Edge
ending_at incoming v = slice_index_or incoming v []

-- for each of so many nodes those of the edges that end there, in their order
pub record AreIncoming (nodes : ℕ) (edges : List Edge) (incoming : List (List Edge)) : Type 0 where
  pub count : length incoming ≡ nodes
  pub each : (v : ℕ) → v < nodes → ending_at incoming v ≡ filter (λ e. e.to == v) edges

-- for each node a list of edges between the nodes that end there
pub record IsNetwork (incoming : List (List Edge)) : Type 0 where
  pub edges : (v : ℕ) → v < length incoming → All (IsEdge (length incoming)) (ending_at incoming v)
  pub ends : (v : ℕ) → v < length incoming → All (λ e. e.to ≡ v) (ending_at incoming v)

-- a number for each node, and they meet all edges
pub record IsSolution (incoming : List (List Edge)) (x : List ℤ) : Type 0 where
  pub count : length x ≡ length incoming
  pub meets : (v : ℕ) → v < length incoming → All (Meets x) (ending_at incoming v)

-- a solution of numbers that are as near to 0 as the times of a log
pub record IsNear (incoming : List (List Edge)) (x : List ℤ) : Type 0 where
  pub solution : IsSolution incoming x
  pub near : All (IsWithin MAX_TIME) x

-- a solution in which the node has 0, and in which no node is less above that node than in a near one
pub record IsLatest (incoming : List (List Edge)) (node : ℕ) (x : List ℤ) : Type 0 where
  pub solution : IsSolution incoming x
  pub own : number_of x node ≡ pos 0
  pub greatest : (y : List ℤ) → IsNear incoming y → (v : ℕ) → v < length incoming → (number_of y v -ℤ number_of y node) ≤ℤ number_of x v
