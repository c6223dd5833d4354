-- Lists of trees that grow, a tree at a time, by trees that aren't among them.
use Rattle.std.specs.Prelude.{◌≡◌, ℕ, ◌<◌, List, [], ◌∷◌, ◌++◌, length, Result, Err, IfOk, OnOk, if◌then◌else◌}
use Rattle.mt_model.specs.Form.{Form, True, False, Prop, Not, And, Or, Implies, Until, Since, Eventually, Always, Once, Historically}
use Rattle.formula_arena.specs.declared.arena.TheConstants.{MAX_NODES}
use Rattle.formula_arena.specs.declared.fault.ArenaFault.{ArenaFault}
use Rattle.formula_arena.specs.declared.fault.ArenaFault.TheVariants.{TooManyNodes}
use Rattle.formula_arena.specs.Nodes.{Extends, has_form, IsAt}

-- the trees, and one more at the end where it isn't among them
unfoldable pub with_tree : List Form → Form → List Form
with_tree trees f = if has_form trees f then trees else trees ++ f ∷ []

-- the trees with each subtree of a tree, in the order in which a walk finishes them
abbrev pub with_subtrees : List Form → Form → List Form
with_subtrees trees True = with_tree trees True
with_subtrees trees False = with_tree trees False
with_subtrees trees (Prop host name) = with_tree trees (Prop host name)
with_subtrees trees (Not f) = with_tree (with_subtrees trees f) (Not f)
with_subtrees trees (And f g) = with_tree (with_subtrees (with_subtrees trees f) g) (And f g)
with_subtrees trees (Or f g) = with_tree (with_subtrees (with_subtrees trees f) g) (Or f g)
with_subtrees trees (Implies f g) = with_tree (with_subtrees (with_subtrees trees f) g) (Implies f g)
with_subtrees trees (Until I f g) = with_tree (with_subtrees (with_subtrees trees f) g) (Until I f g)
with_subtrees trees (Since I f g) = with_tree (with_subtrees (with_subtrees trees f) g) (Since I f g)
with_subtrees trees (Eventually I f) = with_tree (with_subtrees trees f) (Eventually I f)
with_subtrees trees (Always I f) = with_tree (with_subtrees trees f) (Always I f)
with_subtrees trees (Once I f) = with_tree (with_subtrees trees f) (Once I f)
with_subtrees trees (Historically I f) = with_tree (with_subtrees trees f) (Historically I f)

-- what a list of trees is after a tree was to be added, and the answer: the tree's node, and the list has grown as it should; or a fault, which
-- is one of too many nodes only where the grown list would have more than the limit. What was held is kept
pub record IsGrown (old grown : List Form) (f : Form) (result : Result ℕ ArenaFault) (new : List Form) : Type 0 where
  pub at : IfOk result (λ id. IsAt new id f)
  pub nodes : OnOk result (new ≡ grown)
  pub too_many : result ≡ Err TooManyNodes → MAX_NODES < length grown
  pub kept : Extends old new
