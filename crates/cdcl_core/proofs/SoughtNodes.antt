-- What the nodes of a formula are: they name each other, and their intervals are the formula's.
use Rattle.std.proofs.Common.{◌≡◌, ◌∙◌, sym, ap, refl, subst, ℕ, ◌<◌, Bool, true, List, length, Option, Some, None, arith}
use Rattle.std.specs.Prelude.{Contains, option_and_then, slice_get, slice_index_or}
use Rattle.std.proofs.lemmas.Option.{get_or_from_slice_get, slice_get_within}
use Rattle.mt_model.specs.declared.tree.Interval.{Interval}
use Rattle.mt_model.specs.Form.{Form, True, False, Prop, Not, And, Or, Implies, Until, Since, Eventually, Always, Once, Historically}
use Rattle.mt_model.specs.Log.{Logged}
use Rattle.formula_arena.specs.Laws.{CoresAreCores, NodesAreSubtrees}
use Rattle.formula_arena.specs.Nodes.{nodes_of, tree_at}
use Rattle.formula_arena.specs.Subtrees.{children_of}
use Rattle.formula_arena.specs.declared.direction.Direction.TheVariants.{Ahead, Behind}
use Rattle.axiom_rules.specs.declared.reach.Reach.{Reach}
use Rattle.axiom_rules.specs.declared.shape.Shape.{Shape}
use Rattle.axiom_rules.specs.declared.shape.Shape.TheVariants as shape
use Rattle.axiom_rules.specs.NodeShapes.{number_of, operand_in, reach_in, rows_named, shape_at, shape_of, sides_in}
use Rattle.axiom_rules.specs.Shapes.{IsOver}
use Rattle.axiom_rules.specs.Sought.{sought_of}
use Rattle.axiom_rules.proofs.RulesMade.{AreNodes}
use Rattle.axiom_rules.proofs.TreeLemmas.{number-at}
use Rattle.cdcl_core.proofs.NodeIntervals.{Pass, node-passes, since-passes, until-passes}

-- the numbers in shapes that are over so many nodes
operand-low : (n : ℕ) (o : Option Shape) (a : ℕ) → ((of : Shape) → o ≡ Some of → IsOver n of) → operand_in o ≡ Some a → a < n
operand-low n None a over is = absurd (cc)
operand-low n (Some shape.True) a over is = absurd (cc)
operand-low n (Some (shape.Prop host name rows)) a over is = absurd (cc)
operand-low n (Some (shape.Not b)) a over is = let same : b ≡ a = cc in subst (λ x. x < n) same (over (shape.Not b) refl)
operand-low n (Some (shape.And b c)) a over is = absurd (cc)
operand-low n (Some (shape.Reach r)) a over is = absurd (cc)

sides-low : (n : ℕ) (o : Option Shape) (sides : ℕ × ℕ) → ((of : Shape) → o ≡ Some of → IsOver n of) → sides_in o ≡ Some sides → (sides.0 < n) × (sides.1 < n)
sides-low n None sides over is = absurd (cc)
sides-low n (Some shape.True) sides over is = absurd (cc)
sides-low n (Some (shape.Prop host name rows)) sides over is = absurd (cc)
sides-low n (Some (shape.Not b)) sides over is = absurd (cc)
sides-low n (Some (shape.And b c)) sides over is = let same : (b, c) ≡ sides = cc in subst (λ (x : ℕ × ℕ). (x.0 < n) × (x.1 < n)) same (over (shape.And b c) refl)
sides-low n (Some (shape.Reach r)) sides over is = absurd (cc)

reach-low : (n : ℕ) (o : Option Shape) (u : Reach) → ((of : Shape) → o ≡ Some of → IsOver n of) → reach_in o ≡ Some u → (u.left < n) × (u.right < n)
reach-low n None u over is = absurd (cc)
reach-low n (Some shape.True) u over is = absurd (cc)
reach-low n (Some (shape.Prop host name rows)) u over is = absurd (cc)
reach-low n (Some (shape.Not b)) u over is = absurd (cc)
reach-low n (Some (shape.And b c)) u over is = absurd (cc)
reach-low n (Some (shape.Reach r)) u over is = let same : r ≡ u = cc in subst (λ (x : Reach). (x.left < n) × (x.right < n)) same (over (shape.Reach r) refl)

-- the nodes of a formula name each other
module _ (cores : CoresAreCores) (law : NodesAreSubtrees) (log : Logged) (f : Form) where
  abbrev trees : List Form
  trees = nodes_of f

  child-below : (k : ℕ) (g h : Form) (place : ℕ) → k < length trees → tree_at trees k ≡ g → place < length (children_of g)
      → slice_index_or (children_of g) place h ≡ h → number_of trees h < length trees
  child-below k g h place low is within at =
      let (j, less, there) = law.children_first f k low place h (rw is within) in
      let same : tree_at trees j ≡ h = there ∙ (rw is at) in
      let found = number-at cores.equality trees (law.once f) j (omega (arith, less, low)) in
      let number : number_of trees h ≡ j = ap (number_of trees) (sym same) ∙ found in
      omega (arith, number, less, low)

  shape-over : (k : ℕ) (g : Form) (of : Shape) → k < length trees → tree_at trees k ≡ g → shape_of log trees g ≡ Some of → IsOver (length trees) of
  shape-over k True of low at is = let same : shape.True ≡ of = cc in subst (IsOver (length trees)) same tt
  shape-over k False of low at is = absurd (cc)
  shape-over k (Prop host name) of low at is = let same : shape.Prop host name (rows_named log host name) ≡ of = cc in subst (IsOver (length trees)) same tt
  shape-over k (Not g) of low at is = let same : shape.Not (number_of trees g) ≡ of = cc in subst (IsOver (length trees)) same (child-below k (Not g) g 0 low at (omega arith) refl)
  shape-over k (And g h) of low at is =
      let same : shape.And (number_of trees g) (number_of trees h) ≡ of = cc in
      subst (IsOver (length trees)) same (child-below k (And g h) g 0 low at (omega arith) refl, child-below k (And g h) h 1 low at (omega arith) refl)
  shape-over k (Or g h) of low at is = absurd (cc)
  shape-over k (Implies g h) of low at is = absurd (cc)
  shape-over k (Until I g h) of low at is =
      let same : shape.Reach (record { direction = Ahead; interval = I; left = number_of trees g; right = number_of trees h }) ≡ of = cc in
      subst (IsOver (length trees)) same (child-below k (Until I g h) g 0 low at (omega arith) refl, child-below k (Until I g h) h 1 low at (omega arith) refl)
  shape-over k (Since I g h) of low at is =
      let same : shape.Reach (record { direction = Behind; interval = I; left = number_of trees g; right = number_of trees h }) ≡ of = cc in
      subst (IsOver (length trees)) same (child-below k (Since I g h) g 0 low at (omega arith) refl, child-below k (Since I g h) h 1 low at (omega arith) refl)
  shape-over k (Eventually I g) of low at is = absurd (cc)
  shape-over k (Always I g) of low at is = absurd (cc)
  shape-over k (Once I g) of low at is = absurd (cc)
  shape-over k (Historically I g) of low at is = absurd (cc)

  pub sought-nodes : (v : Bool) → AreNodes (sought_of log f v) (λ k. k < length trees)
  sought-nodes v = record {
    each = λ k low. low;
    operand = λ k a is. operand-low (length trees) (shape_at (sought_of log f v) k) a (over k) is;
    sides = λ k both is. sides-low (length trees) (shape_at (sought_of log f v) k) both (over k) is;
    children = λ k u is. reach-low (length trees) (shape_at (sought_of log f v) k) u (over k) is;
    root = let some = (law.root f).0 in omega (arith, some);
  } where
    go : (k : ℕ) (of : Shape) (o : Option Form) → slice_get trees k ≡ o → option_and_then (shape_of log trees) o ≡ Some of → IsOver (length trees) of
    go k of None at is = absurd (cc)
    go k of (Some g) at is = shape-over k g of (slice_get_within trees k g at) (get_or_from_slice_get trees k g True at) is

    over : (k : ℕ) (of : Shape) → shape_at (sought_of log f v) k ≡ Some of → IsOver (length trees) of
    over k of is = go k of (slice_get trees k) refl is

  -- the interval of an until or since node is one of the formula's
  module _ (p : Interval → Bool) (passes : Pass p f) where
    interval-of : (g : Form) (u : Reach) → Contains trees g → reach_in (shape_of log trees g) ≡ Some u → p u.interval ≡ true
    interval-of True u has is = absurd (cc)
    interval-of False u has is = absurd (cc)
    interval-of (Prop host name) u has is = absurd (cc)
    interval-of (Not g) u has is = absurd (cc)
    interval-of (And g h) u has is = absurd (cc)
    interval-of (Or g h) u has is = absurd (cc)
    interval-of (Implies g h) u has is = absurd (cc)
    interval-of (Until I g h) u has is =
        let same : record { direction = Ahead; interval = I; left = number_of trees g; right = number_of trees h } ≡ u = cc in
        subst (λ (x : Reach). p x.interval ≡ true) same (until-passes p I g h (node-passes p law f (Until I g h) passes has))
    interval-of (Since I g h) u has is =
        let same : record { direction = Behind; interval = I; left = number_of trees g; right = number_of trees h } ≡ u = cc in
        subst (λ (x : Reach). p x.interval ≡ true) same (since-passes p I g h (node-passes p law f (Since I g h) passes has))
    interval-of (Eventually I g) u has is = absurd (cc)
    interval-of (Always I g) u has is = absurd (cc)
    interval-of (Once I g) u has is = absurd (cc)
    interval-of (Historically I g) u has is = absurd (cc)

    pub interval-at : (v : Bool) (k : ℕ) (u : Reach) → reach_in (shape_at (sought_of log f v) k) ≡ Some u → p u.interval ≡ true
    interval-at v k u is = go (slice_get trees k) refl is
      where
        go : (o : Option Form) → slice_get trees k ≡ o → reach_in (option_and_then (shape_of log trees) o) ≡ Some u → p u.interval ≡ true
        go None at is = absurd (cc)
        go (Some g) at is = interval-of g u (k, slice_get_within trees k g at, get_or_from_slice_get trees k g g at) is
