-- The subtrees of a tree, and equality of trees.
use Rattle.std.specs.Prelude.{ℕ, Bool, true, false, ◌&&◌, ◌==◌, List, [], ◌∷◌, ◌++◌, Contains, Option, Some, None, bytes_eq}
use Rattle.mt_model.specs.declared.tree.Interval.{Interval}
use Rattle.mt_model.specs.Form.{Form, True, False, Prop, Not, And, Or, Implies, Until, Since, Eventually, Always, Once, Historically}

-- the children of a tree, from left to right
abbrev pub children_of : Form → List Form
children_of True = []
children_of False = []
children_of (Prop host name) = []
children_of (Not f) = f ∷ []
children_of (And f g) = f ∷ g ∷ []
children_of (Or f g) = f ∷ g ∷ []
children_of (Implies f g) = f ∷ g ∷ []
children_of (Until I f g) = f ∷ g ∷ []
children_of (Since I f g) = f ∷ g ∷ []
children_of (Eventually I f) = f ∷ []
children_of (Always I f) = f ∷ []
children_of (Once I f) = f ∷ []
children_of (Historically I f) = f ∷ []

-- g is a subtree of a tree: the tree itself, or a subtree of one of its children
pub data IsSubtree (g : Form) : Form → Type 0 where
  whole : IsSubtree g g
  below : (f h : Form) → Contains (children_of f) h → IsSubtree g h → IsSubtree g f

-- the subtrees in the order in which a walk finishes them, each as often as it occurs: those of the
-- left child, those of the right child, then the tree
abbrev pub subtrees_of : Form → List Form
subtrees_of True = True ∷ []
subtrees_of False = False ∷ []
subtrees_of (Prop host name) = Prop host name ∷ []
subtrees_of (Not f) = subtrees_of f ++ Not f ∷ []
subtrees_of (And f g) = subtrees_of f ++ subtrees_of g ++ And f g ∷ []
subtrees_of (Or f g) = subtrees_of f ++ subtrees_of g ++ Or f g ∷ []
subtrees_of (Implies f g) = subtrees_of f ++ subtrees_of g ++ Implies f g ∷ []
subtrees_of (Until I f g) = subtrees_of f ++ subtrees_of g ++ Until I f g ∷ []
subtrees_of (Since I f g) = subtrees_of f ++ subtrees_of g ++ Since I f g ∷ []
subtrees_of (Eventually I f) = subtrees_of f ++ Eventually I f ∷ []
subtrees_of (Always I f) = subtrees_of f ++ Always I f ∷ []
subtrees_of (Once I f) = subtrees_of f ++ Once I f ∷ []
subtrees_of (Historically I f) = subtrees_of f ++ Historically I f ∷ []

-- both upper bounds are the same number, or both are lacking
abbrev pub same_bound : Option ℕ → Option ℕ → Bool
same_bound None None = true
same_bound (Some m) (Some n) = m == n
same_bound _ _ = false

-- whether two intervals are equal
abbrev pub same_interval : Interval → Interval → Bool
same_interval I J = (I.low == J.low) && same_bound I.high J.high

-- whether two trees are equal
abbrev pub same_form : Form → Form → Bool
same_form True True = true
same_form False False = true
same_form (Prop h m) (Prop i n) = bytes_eq h i && bytes_eq m n
same_form (Not f) (Not g) = same_form f g
same_form (And f g) (And h k) = same_form f h && same_form g k
same_form (Or f g) (Or h k) = same_form f h && same_form g k
same_form (Implies f g) (Implies h k) = same_form f h && same_form g k
same_form (Until I f g) (Until J h k) = same_interval I J && same_form f h && same_form g k
same_form (Since I f g) (Since J h k) = same_interval I J && same_form f h && same_form g k
same_form (Eventually I f) (Eventually J g) = same_interval I J && same_form f g
same_form (Always I f) (Always J g) = same_interval I J && same_form f g
same_form (Once I f) (Once J g) = same_interval I J && same_form f g
same_form (Historically I f) (Historically J g) = same_interval I J && same_form f g
same_form _ _ = false
