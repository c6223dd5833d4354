-- The table whose columns are solutions of edges that no near solution exceeds.
use Rattle.std.specs.Prelude.{◌≡◌, ℕ, ◌<◌, ◌≤◌, List, length, ℤ}
use Rattle.neg_cycle.specs.declared.system.Edge.{Edge}
use Rattle.neg_cycle.specs.Systems.{number_of}
use Rattle.skew_bounds.specs.Differences.{Differences, entry}
use Rattle.skew_bounds.specs.Incoming.{IsLatest}

-- a node's column are numbers that meet the edges and give the node 0, none below a near solution's
pub record IsColumnOf (incoming : List (List Edge)) (d : Differences) (node : ℕ) : Type 0 where
  pub numbers : List ℤ
  pub latest : IsLatest incoming node numbers
  pub entries : (i : ℕ) → i < d.nodes → entry d i node ≡ number_of numbers i

-- a table of the first so many nodes: each column is that of its node
pub record IsTableOf (size : ℕ) (incoming : List (List Edge)) (d : Differences) : Type 0 where
  pub nodes : d.nodes ≡ size
  pub within : size ≤ length incoming
  pub columns : (node : ℕ) → node < d.nodes → IsColumnOf incoming d node
