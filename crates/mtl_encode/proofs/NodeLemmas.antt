-- The nodes of a formula: each is a core tree, and its children are nodes, found by their numbers.
use Rattle.std.proofs.Common.{◌≡◌, ◌∙◌, sym, ap, refl, ℕ, ◌<◌, true, [], ◌∷◌, length, arith}
use Rattle.std.specs.Prelude.{◌↔◌, All, option_and_then, slice_index_or}
use Rattle.std.proofs.lemmas.List.Elements.{All-cons, All-contains, All-nil}
use Rattle.std.proofs.lemmas.Option.{slice_get_read}
use Rattle.mt_model.specs.Form.{Form, True, False, Prop, Not, And, Or, Implies, Until, Since, Eventually, Always, Once, Historically}
use Rattle.formula_arena.specs.Cores.{IsCore, core_of}
use Rattle.formula_arena.specs.Laws.{CoresAreCores, NodesAreSubtrees}
use Rattle.formula_arena.specs.Nodes.{StandsBefore, nodes_of, tree_at}
use Rattle.formula_arena.specs.Subtrees.{IsSubtree, below, children_of, same_form, whole}
use Rattle.axiom_rules.specs.NodeShapes.{number_of, shape_at, shape_of}
use Rattle.axiom_rules.specs.Sought.{Sought}
use Rattle.axiom_rules.proofs.ShapeLemmas.{index_or-there}
use Rattle.axiom_rules.proofs.TreeLemmas.{child-number, number-at}

core-one : (f : Form) → IsCore f → All IsCore (f ∷ [])
core-one f p = All-cons IsCore f [] p (All-nil IsCore)

core-two : (f g : Form) → IsCore f → IsCore g → All IsCore (f ∷ g ∷ [])
core-two f g p q = All-cons IsCore f (g ∷ []) p (core-one g q)

-- the children of a core tree are core trees
children-core : (f : Form) → IsCore f → All IsCore (children_of f)
children-core True is = All-nil IsCore
children-core False is = All-nil IsCore
children-core (Prop host name) is = All-nil IsCore
children-core (Not f) is = core-one f (cc)
children-core (And f g) is = core-two f g (cc) (cc)
children-core (Or f g) is = absurd (cc)
children-core (Implies f g) is = absurd (cc)
children-core (Until I f g) is = core-two f g (cc) (cc)
children-core (Since I f g) is = core-two f g (cc) (cc)
children-core (Eventually I f) is = absurd (cc)
children-core (Always I f) is = absurd (cc)
children-core (Once I f) is = absurd (cc)
children-core (Historically I f) is = absurd (cc)

subtree-core : (g f : Form) → IsSubtree g f → IsCore f → IsCore g
subtree-core g f whole is = is
subtree-core g f (below h x child sub) is = subtree-core g x sub (All-contains IsCore (children_of f) x (children-core f is) child)

-- a tree among the nodes is a core tree
pub node-core : CoresAreCores → NodesAreSubtrees → (f : Form) (k : ℕ) → k < length (nodes_of f) → IsCore (tree_at (nodes_of f) k)
node-core cores nodes f k low = subtree-core (tree_at (nodes_of f) k) (core_of f) ((nodes.subtrees f (tree_at (nodes_of f) k)).0 (k, low, sym (index_or-there (nodes_of f) k True low))) (cores.core f)

module _ (same : (f g : Form) → (same_form f g ≡ true) ↔ (f ≡ g)) (s : Sought) (once : (j k : ℕ) → j < length s.trees → k < length s.trees → tree_at s.trees j ≡ tree_at s.trees k → j ≡ k)
    (children_first : (k : ℕ) → k < length s.trees → All (StandsBefore s.trees k) (children_of (tree_at s.trees k))) where
  -- what a node is, by its tree
  pub shape-is : (k : ℕ) (g : Form) → k < length s.trees → tree_at s.trees k ≡ g → shape_at s k ≡ shape_of s.log s.trees g
  shape-is k g low is =
      ap (option_and_then (shape_of s.log s.trees)) (slice_get_read s.trees (length s.trees) k (tree_at s.trees k) refl low (index_or-there s.trees k True low)) ∙ ap (shape_of s.log s.trees) is

  -- node a is there, and its tree is g
  pub record IsThere (a : ℕ) (g : Form) : Type 0 where
    pub low : a < length s.trees
    pub tree : tree_at s.trees a ≡ g

  -- a child by its place
  pub child-there : (k place : ℕ) (g h : Form) → k < length s.trees → tree_at s.trees k ≡ g → place < length (children_of g)
      → slice_index_or (children_of g) place h ≡ h → IsThere (number_of s.trees h) h
  child-there k place g h low is within at =
      let (j, less, there) = children_first k low place h (rw is within) in
      let tree : tree_at s.trees j ≡ h = there ∙ (rw is at) in
      let number : number_of s.trees h ≡ j = ap (number_of s.trees) (sym tree) ∙ number-at same s.trees once j (omega arith) in
      record { low = omega (arith, number); tree = child-number same s.trees children_first k place g h low is within at }
