-- The table by which an arena holds its trees.
use Rattle.std.specs.Prelude.{◌≡◌, ℕ, ◌+◌, ◌<◌, List, [], ◌∷◌, ◌++◌, length, map, All, slice_get}
use Rattle.std.specs.Option.{option_map_or}
use Rattle.mt_model.specs.Form.{Form, True, Prop, Not, And, Until, Since}
use Rattle.formula_arena.specs.declared.node.Core.{Core}
use Rattle.formula_arena.specs.declared.node.Core.TheVariants as core
use Rattle.formula_arena.specs.declared.node.Proposition.{Proposition}
use Rattle.formula_arena.specs.Nodes.{IsArena, IsAt, propositions_in, tree_at}

-- a proposition as a tree
abbrev pub tree_of_proposition : Proposition → Form
tree_of_proposition p = Prop p.host p.name

-- the tree of a node over the trees of earlier ones
abbrev pub tree_over : List Proposition → List Form → Core → Form
tree_over props trees core.True = True
tree_over props trees (core.Prop p) = option_map_or tree_of_proposition (slice_get props p) True
tree_over props trees (core.Not a) = Not (tree_at trees a)
tree_over props trees (core.And a b) = And (tree_at trees a) (tree_at trees b)
tree_over props trees (core.Until I a b) = Until I (tree_at trees a) (tree_at trees b)
tree_over props trees (core.Since I a b) = Since I (tree_at trees a) (tree_at trees b)

-- trees, and after them those of further nodes, each over those before it
abbrev pub trees_after : List Proposition → List Form → List Core → List Form
trees_after props trees [] = trees
trees_after props trees (node ∷ nodes) = trees_after props (trees ++ tree_over props trees node ∷ []) nodes

-- the trees of the nodes, in order
unfoldable pub trees_of : List Proposition → List Core → List Form
trees_of props nodes = trees_after props [] nodes

-- a node names earlier nodes, and propositions that there are
abbrev pub IsOver : ℕ → ℕ → Core → Type 0
IsOver props k core.True = Unit {0}
IsOver props k (core.Prop p) = p < props
IsOver props k (core.Not a) = a < k
IsOver props k (core.And a b) = (a < k) × (b < k)
IsOver props k (core.Until I a b) = (a < k) × (b < k)
IsOver props k (core.Since I a b) = (a < k) × (b < k)

-- nodes from place k on are each over the nodes before it
abbrev pub AreOver : ℕ → ℕ → List Core → Type 0
AreOver props k [] = Unit {0}
AreOver props k (node ∷ nodes) = IsOver props k node × AreOver props (k + 1) nodes

-- a table of propositions, each with the number of its node, and of nodes
pub record IsTable (entries : List (Proposition × ℕ)) (held : List Core) : Type 0 where
  pub over : AreOver (length entries) 0 held
  pub arena : IsArena (trees_of (map (λ e. e.0) entries) held)
  pub props : map (λ e. tree_of_proposition e.0) entries ≡ propositions_in (trees_of (map (λ e. e.0) entries) held)
  pub nodes : All (λ e. IsAt (trees_of (map (λ e. e.0) entries) held) e.1 (tree_of_proposition e.0)) entries
