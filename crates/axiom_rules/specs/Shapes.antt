-- The trees that are told by the shapes of their nodes.
use Rattle.std.specs.Prelude.{◌≡◌, ◌<◌, ℕ, List, [], ◌∷◌, ◌++◌, length, Some, slice_get}
use Rattle.mt_model.specs.declared.tree.Interval.{Interval}
use Rattle.mt_model.specs.Form.{Form, True, Prop, Not, And, Until, Since}
use Rattle.mt_model.specs.Log.{Logged}
use Rattle.formula_arena.specs.declared.direction.Direction.{Direction}
use Rattle.formula_arena.specs.declared.direction.Direction.TheVariants.{Ahead, Behind}
use Rattle.formula_arena.specs.Nodes.{tree_at}
use Rattle.axiom_rules.specs.declared.shape.Shape.{Shape}
use Rattle.axiom_rules.specs.declared.shape.Shape.TheVariants as shape
use Rattle.axiom_rules.specs.NodeShapes.{shape_of}

-- an until, or a since
abbrev pub reach_over : Direction → Interval → Form → Form → Form
reach_over Ahead I f g = Until I f g
reach_over Behind I f g = Since I f g

-- the tree of a shape over the trees before it
abbrev pub tree_over : List Form → Shape → Form
tree_over trees shape.True = True
tree_over trees (shape.Prop host name rows) = Prop host name
tree_over trees (shape.Not a) = Not (tree_at trees a)
tree_over trees (shape.And a b) = And (tree_at trees a) (tree_at trees b)
tree_over trees (shape.Reach r) = reach_over r.direction r.interval (tree_at trees r.left) (tree_at trees r.right)

-- trees, and after them those of further shapes, each over those before it
abbrev pub trees_after : List Form → List Shape → List Form
trees_after trees [] = trees
trees_after trees (shape ∷ shapes) = trees_after (trees ++ tree_over trees shape ∷ []) shapes

-- the trees of shapes, in order
unfoldable pub trees_of : List Shape → List Form
trees_of shapes = trees_after [] shapes

-- a shape names only nodes before node k
abbrev pub IsOver : ℕ → Shape → Type 0
IsOver k shape.True = Unit {0}
IsOver k (shape.Prop host name rows) = Unit {0}
IsOver k (shape.Not a) = a < k
IsOver k (shape.And a b) = (a < k) × (b < k)
IsOver k (shape.Reach r) = (r.left < k) × (r.right < k)

-- the shape of node k
pub record IsShape (log : Logged) (trees : List Form) (k : ℕ) (shape : Shape) : Type 0 where
  pub known : shape_of log trees (tree_at trees k) ≡ Some shape
  pub over : IsOver k shape
  pub tree : tree_at trees k ≡ tree_over trees shape

-- the shapes of the trees, one each
pub record AreShapes (log : Logged) (trees : List Form) (shapes : List Shape) : Type 0 where
  pub count : length shapes ≡ length trees
  pub each : (k : ℕ) (shape : Shape) → slice_get shapes k ≡ Some shape → IsShape log trees k shape
