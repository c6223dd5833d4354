-- What a node says of its tree.
use Rattle.std.specs.Prelude.{◌≡◌, ℕ, ◌<◌, List, length}
use Rattle.mt_model.specs.Form.{Form, True, Not, And, Until, Since}
use Rattle.formula_arena.specs.declared.node.Core.{Core}
use Rattle.formula_arena.specs.declared.node.Core.TheVariants as core
use Rattle.formula_arena.specs.Nodes.{propositions_in, tree_at}

-- the tree of node k is that of the operator over the trees of the nodes that are named, whose numbers are
-- smaller; a proposition's number is its place among the propositions
abbrev pub IsNode : List Form → ℕ → Core → Type 0
IsNode trees k core.True = tree_at trees k ≡ True
IsNode trees k (core.Prop p) = (p < length (propositions_in trees)) × (tree_at trees k ≡ tree_at (propositions_in trees) p)
IsNode trees k (core.Not a) = (a < k) × (tree_at trees k ≡ Not (tree_at trees a))
IsNode trees k (core.And a b) = (a < k) × (b < k) × (tree_at trees k ≡ And (tree_at trees a) (tree_at trees b))
IsNode trees k (core.Until I a b) = (a < k) × (b < k) × (tree_at trees k ≡ Until I (tree_at trees a) (tree_at trees b))
IsNode trees k (core.Since I a b) = (a < k) × (b < k) × (tree_at trees k ≡ Since I (tree_at trees a) (tree_at trees b))
