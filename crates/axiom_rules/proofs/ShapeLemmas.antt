-- The shapes of trees tell the trees.
use Rattle.std.proofs.Common.{◌≡◌, ◌∙◌, sym, ap, refl, subst, ℕ, zero, suc, ◌+◌, ◌-◌, ◌<◌, ◌≤◌, true, List, [], ◌∷◌, ◌++◌, length, Option, Some, None, ◌⊎◌, inl, inr, arith}
use Rattle.std.specs.Prelude.{◌↔◌, option_and_then, slice_get, slice_index_or}
use Rattle.std.specs.List.{cons_option, filter_map, range_with_len}
use Rattle.std.proofs.lemmas.List.{append-nil, append_assoc, length-append}
use Rattle.mt_model.specs.Form.{Form, True, Not, And, Until, Since}
use Rattle.mt_model.specs.Log.{Logged}
use Rattle.formula_arena.specs.declared.direction.Direction.TheVariants.{Ahead, Behind}
use Rattle.axiom_rules.specs.declared.shape.Shape.{Shape}
use Rattle.axiom_rules.specs.declared.shape.Shape.TheVariants as shape
use Rattle.std.proofs.lemmas.Option.{slice_get_past, slice_get_read, slice_get_within}
use Rattle.axiom_rules.specs.Sought.{Sought}
use Rattle.axiom_rules.specs.NodeShapes.{number_of, shape_at, shape_of}
use Rattle.axiom_rules.proofs.TreeLemmas.{number-at}
use Rattle.formula_arena.specs.Nodes.{IsArena, nodes_of, tree_at}
use Rattle.formula_arena.specs.Subtrees.{same_form}
use Rattle.mt_model.specs.declared.tree.Interval.{Interval}
use Rattle.mt_model.specs.State.{Change, change_at}
use Rattle.axiom_rules.specs.Sought.{sought_of}
use Rattle.axiom_rules.specs.Shapes.{AreShapes, IsOver, IsShape, tree_over, trees_after, trees_of}
use Rattle.mt_list.proofs.Lists.{given_more}
use Rattle.formula_arena.proofs.TreeLists.{at-old}

get-absent : {X : Type 0} (xs : List X) (k : ℕ) → slice_get xs k ≡ None → length xs ≤ k
get-absent [] k h = omega arith
get-absent (x ∷ xs) zero h = absurd (cc)
get-absent (x ∷ xs) (suc k) h = let less = get-absent xs k h in omega (arith, less)

-- an element that is there, whatever stands for those that are not
pub index_or-there : (xs : List Form) (k : ℕ) (d : Form) → k < length xs → slice_index_or xs k d ≡ slice_index_or xs k (slice_index_or xs k d)
index_or-there [] k d low = absurd (omega arith)
index_or-there (x ∷ xs) zero d low = refl
index_or-there (x ∷ xs) (suc k) d low = index_or-there xs k d (omega arith)

-- the shapes of the first trees, so many of them
pub record AreFirstShapes (log : Logged) (trees : List Form) (shapes : List Shape) (k : ℕ) : Type 0 where
  pub count : length shapes ≡ k
  pub each : (j : ℕ) (shape : Shape) → slice_get shapes j ≡ Some shape → IsShape log trees j shape

pub slice-end : {X : Type 0} (xs : List X) (x y : X) (j : ℕ) → slice_get (xs ++ x ∷ []) j ≡ Some y → (slice_get xs j ≡ Some y) ⊎ ((j ≡ length xs) × (x ≡ y))
slice-end [] x y zero is = inr (refl, cc)
slice-end [] x y (suc j) is = absurd (cc)
slice-end (z ∷ xs) x y zero is = inl is
slice-end (z ∷ xs) x y (suc j) is = elim (slice-end xs x y j is) [ inl old ↦ inl old | inr new ↦ let n : suc j ≡ length (z ∷ xs) = omega (arith, new.0) in inr (n, new.1) ]

-- one shape more
pub shapes-push : (log : Logged) (trees : List Form) (shapes : List Shape) (k : ℕ) (shape : Shape) → AreFirstShapes log trees shapes k
    → IsShape log trees k shape → AreFirstShapes log trees (shapes ++ shape ∷ []) (k + 1)
shapes-push log trees shapes k shape first is = record {
  count = length-append shapes (shape ∷ []) ∙ ap (λ n. n + 1) first.count;
  each = λ j other there. elim (slice-end shapes shape other j there) [
    | inl old ↦ first.each j other old
    | inr new ↦ subst (IsShape log trees j) new.1 (rw (new.0, first.count) is)
  ];
}

tree-end : (xs : List Form) (y : Form) (ys : List Form) → tree_at (xs ++ y ∷ ys) (length xs) ≡ y
tree-end [] y ys = refl
tree-end (x ∷ xs) y ys = tree-end xs y ys

-- what a shape says over trees it says over those before it
over-left : (xs ys : List Form) (s : Shape) → IsOver (length xs) s → tree_over (xs ++ ys) s ≡ tree_over xs s
over-left xs ys shape.True over = refl
over-left xs ys (shape.Prop host name changes) over = refl
over-left xs ys (shape.Not a) over = ap Not (at-old xs ys a over)
over-left xs ys (shape.And a b) over = rw (at-old xs ys a over.0, at-old xs ys b over.1) refl
over-left xs ys (shape.Reach r) over = rw (at-old xs ys r.left over.0, at-old xs ys r.right over.1) refl

-- the shapes of further trees tell them
trees-after : (log : Logged) (xs ys : List Form) (shapes : List Shape) → length shapes ≡ length ys
    → ((j : ℕ) (s : Shape) → slice_get shapes j ≡ Some s → IsShape log (xs ++ ys) (length xs + j) s) → trees_after xs shapes ≡ xs ++ ys
trees-after log xs [] [] count each = sym (append-nil xs)
trees-after log xs (y ∷ ys) [] count each = absurd (omega (arith, count))
trees-after log xs [] (s ∷ shapes) count each = absurd (omega (arith, count))
trees-after log xs (y ∷ ys) (s ∷ shapes) count each =
    let first = each zero s refl in
    let at : length xs + 0 ≡ length xs = omega arith in
    let over : IsOver (length xs) s = rw at at first.over in
    let here : tree_over xs s ≡ y = sym (over-left xs (y ∷ ys) s over) ∙ sym first.tree ∙ (rw at (tree-end xs y ys)) in
    let whole : (xs ++ y ∷ []) ++ ys ≡ xs ++ y ∷ ys = append_assoc xs (y ∷ []) ys in
    let more = length-append xs (y ∷ []) in
    rw here (trees-after log (xs ++ y ∷ []) ys shapes (omega (arith, count)) (λ j t there.
    let n : length (xs ++ y ∷ []) + j ≡ length xs + suc j = omega (arith, more) in
    rw (whole, n) (each (suc j) t there)) ∙ whole)

-- the shapes of trees tell them
pub trees-told : (log : Logged) (trees : List Form) (shapes : List Shape) → AreShapes log trees shapes → trees_of shapes ≡ trees
unfolding trees_of
trees-told log trees shapes are = trees-after log [] trees shapes are.count (λ j s there. let n : 0 + j ≡ j = omega arith in rw n (are.each j s there))

-- one row more
pub changes-some : (log : Logged) (host : ℕ) (name : List ℕ) (e : ℕ) (c : Change) (old new : List Change)
    → old ≡ filter_map (change_at log host name) (range_with_len 0 e) → Some c ≡ change_at log host name e → new ≡ old ++ c ∷ []
    → new ≡ filter_map (change_at log host name) (range_with_len 0 (e + 1))
changes-some log host name e c old new is found more =
    more ∙ ap (λ cs. cs ++ c ∷ []) is ∙ ap (λ o. filter_map (change_at log host name) (range_with_len 0 e) ++ cons_option o []) found ∙ sym (given_more (change_at log host name) e)

pub changes-none : (log : Logged) (host : ℕ) (name : List ℕ) (e : ℕ) (old : List Change) → old ≡ filter_map (change_at log host name) (range_with_len 0 e) → None ≡ change_at log host name e
    → old ≡ filter_map (change_at log host name) (range_with_len 0 (e + 1))
changes-none log host name e old is found =
    is ∙ sym (append-nil _) ∙ ap (λ o. filter_map (change_at log host name) (range_with_len 0 e) ++ cons_option o []) found ∙ sym (given_more (change_at log host name) e)

-- shapes of nodes of an arena
module _ (same : (f g : Form) → (same_form f g ≡ true) ↔ (f ≡ g)) (log : Logged) (trees : List Form) (arena : IsArena trees) (k : ℕ) (low : k < length trees) where
  at : (a : ℕ) → a < k → number_of trees (tree_at trees a) ≡ a
  at a less = number-at same trees arena.once a (omega arith)

  pub shape-not : (a : ℕ) → a < k → tree_at trees k ≡ Not (tree_at trees a) → IsShape log trees k (shape.Not a)
  shape-not a less is = record { known = rw (is, at a less) refl; over = less; tree = is }

  pub shape-and : (a b : ℕ) → a < k → b < k → tree_at trees k ≡ And (tree_at trees a) (tree_at trees b) → IsShape log trees k (shape.And a b)
  shape-and a b less_a less_b is = record { known = rw (is, at a less_a, at b less_b) refl; over = (less_a, less_b); tree = is }

  pub shape-until : (I : Interval) (a b : ℕ) → a < k → b < k → tree_at trees k ≡ Until I (tree_at trees a) (tree_at trees b)
      → IsShape log trees k (shape.Reach (record { direction = Ahead; interval = I; left = a; right = b }))
  shape-until I a b less_a less_b is = record { known = rw (is, at a less_a, at b less_b) refl; over = (less_a, less_b); tree = is }

  pub shape-since : (I : Interval) (a b : ℕ) → a < k → b < k → tree_at trees k ≡ Since I (tree_at trees a) (tree_at trees b)
      → IsShape log trees k (shape.Reach (record { direction = Behind; interval = I; left = a; right = b }))
  shape-since I a b less_a less_b is = record { known = rw (is, at a less_a, at b less_b) refl; over = (less_a, less_b); tree = is }

-- the shape of a node's place, where there is one
pub shape-read : (s : Sought) (shapes : List Shape) → AreShapes s.log s.trees shapes → (k : ℕ) (o : Option Shape) → o ≡ slice_get shapes k → shape_at s k ≡ o
shape-read s shapes are k (Some x) is =
    let within : k < length s.trees = omega (arith, slice_get_within shapes k x (sym is), are.count) in
    ap (option_and_then (shape_of s.log s.trees)) (slice_get_read s.trees (length s.trees) k (tree_at s.trees k) refl within (index_or-there s.trees k True within)) ∙ (are.each k x (sym is)).known
shape-read s shapes are k None is = ap (option_and_then (shape_of s.log s.trees)) (slice_get_past s.trees k (omega (arith, get-absent shapes k (sym is), are.count)))

-- what is sought of the nodes of a formula, the root being the last
pub sought-formula : (s : Sought) (f : Form) → s.trees ≡ nodes_of f → s.root + 1 ≡ length s.trees → s ≡ sought_of s.log f s.value
sought-formula s f nodes last =
    let root : s.root ≡ length (nodes_of f) - 1 = omega (arith, last, ap length nodes) in
    ap (λ trees. let x : Sought = record { log = s.log; trees = trees; root = s.root; value = s.value } in x) nodes
    ∙ ap (λ r. let x : Sought = record { log = s.log; trees = nodes_of f; root = r; value = s.value } in x) root
