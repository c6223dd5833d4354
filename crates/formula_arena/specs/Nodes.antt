-- The nodes of a formula, and lists of core trees as an arena holds them.
use Rattle.std.specs.Prelude.{◌≡◌, ℕ, ◌<◌, ◌≤◌, Bool, true, false, not, List, [], ◌∷◌, ◌++◌, length, filter, slice_index_or, All}
use Rattle.std.specs.List.{list_any}
use Rattle.mt_model.specs.Form.{Form, True, Prop}
use Rattle.formula_arena.specs.declared.arena.TheConstants.{MAX_NODES}
use Rattle.formula_arena.specs.Cores.{core_of, IsCore}
use Rattle.formula_arena.specs.Subtrees.{children_of, same_form, subtrees_of}

-- a tree stands in a list
abbrev pub has_form : List Form → Form → Bool
has_form trees f = list_any (same_form f) trees

-- each tree of a list once, where it first stands
abbrev pub each_once : List Form → List Form
each_once [] = []
each_once (f ∷ fs) = f ∷ filter (λ g. not (same_form g f)) (each_once fs)

-- the nodes of a formula: the distinct subtrees of its core, in the order in which a walk first finishes them
abbrev pub nodes_of : Form → List Form
nodes_of f = each_once (subtrees_of (core_of f))

-- a list of trees, and after them those nodes of a formula that aren't among them, in the order of the nodes
abbrev pub with_nodes_of : List Form → Form → List Form
with_nodes_of trees f = trees ++ filter (λ g. not (has_form trees g)) (nodes_of f)

-- the tree of a node, by its number
abbrev pub tree_at : List Form → ℕ → Form
tree_at trees k = slice_index_or trees k True

-- the tree of node k is f
abbrev pub IsAt : List Form → ℕ → Form → Type 0
IsAt trees k f = (k < length trees) × (tree_at trees k ≡ f)

-- f is the tree of a node of a number below k
abbrev pub StandsBefore : List Form → ℕ → Form → Type 0
StandsBefore trees k f = (j : ℕ) × (j < k) × (tree_at trees j ≡ f)

-- the list begins with the other one
abbrev pub Extends : List Form → List Form → Type 0
Extends old new = (added : List Form) × (new ≡ old ++ added)

-- distinct core trees, few enough, each after its children
pub record IsArena (trees : List Form) : Type 0 where
  pub few : length trees ≤ MAX_NODES
  pub cores : All IsCore trees
  -- equal trees have equal numbers
  pub once : (j k : ℕ) → j < length trees → k < length trees → tree_at trees j ≡ tree_at trees k → j ≡ k
  pub children_first : (k : ℕ) → k < length trees → All (StandsBefore trees k) (children_of (tree_at trees k))

-- whether a tree is a proposition
abbrev pub is_proposition : Form → Bool
is_proposition (Prop host name) = true
is_proposition _ = false

-- the propositions among the nodes, in the order of the nodes
abbrev pub propositions_in : List Form → List Form
propositions_in trees = filter is_proposition trees
