-- Laws about cores and nodes.
use Rattle.std.specs.Prelude.{◌≡◌, ◌↔◌, ◌<◌, ℕ, ◌-◌, List, length, true, Contains, All, ℤ}
use Rattle.mt_model.specs.Form.{Form}
use Rattle.mt_model.specs.Log.{Logged}
use Rattle.mt_model.specs.Truth.{truth, truth_of}
use Rattle.formula_arena.specs.Cores.{core_of, IsCore}
use Rattle.formula_arena.specs.Subtrees.{IsSubtree, children_of, same_form}
use Rattle.formula_arena.specs.Nodes.{StandsBefore, nodes_of, tree_at}

-- the core of a formula is true where the formula is, at each position and at each row
pub record TruthOfCore : Type 0 where
  pub at_position : (log : Logged) (t : List ℤ) (i : ℕ) (f : Form) → truth log t i (core_of f) ≡ truth log t i f
  pub at_row : (log : Logged) (t : List ℤ) (e : ℕ) (f : Form) → truth_of log t e (core_of f) ≡ truth_of log t e f

-- the core of a formula is a core tree, and the test of equality tells trees apart exactly where they differ
pub record CoresAreCores : Type 0 where
  pub core : (f : Form) → IsCore (core_of f)
  pub equality : (f g : Form) → (same_form f g ≡ true) ↔ (f ≡ g)

-- the nodes of a formula are the subtrees of its core, each once, each after its children, the core itself last
pub record NodesAreSubtrees : Type 0 where
  pub subtrees : (f g : Form) → Contains (nodes_of f) g ↔ IsSubtree g (core_of f)
  pub once : (f : Form) (j k : ℕ) → j < length (nodes_of f) → k < length (nodes_of f) → tree_at (nodes_of f) j ≡ tree_at (nodes_of f) k → j ≡ k
  pub children_first : (f : Form) (k : ℕ) → k < length (nodes_of f) → All (StandsBefore (nodes_of f) k) (children_of (tree_at (nodes_of f) k))
  pub root : (f : Form) → (0 < length (nodes_of f)) × (tree_at (nodes_of f) (length (nodes_of f) - 1) ≡ core_of f)
