-- The intervals of a formula's nodes are its own.
use Rattle.std.proofs.Common.{◌≡◌, ◌∙◌, sym, refl, subst, Bool, true, inl, inr, List, [], ◌∷◌, ◌++◌}
use Rattle.std.specs.Prelude.{Contains}
use Rattle.std.specs.List.{list_all}
use Rattle.std.proofs.lemmas.Bool.{and_from, and_parts}
use Rattle.std.proofs.lemmas.List.Folds.{list_all-append}
use Rattle.hint_refutation.proofs.Lists.{contains_cases, contains_none}
use Rattle.mt_model.specs.declared.tree.Interval.{Interval}
use Rattle.mt_model.specs.Form.{Form, True, False, Prop, Not, And, Or, Implies, Until, Since, Eventually, Always, Once, Historically, intervals_of}
use Rattle.formula_arena.specs.Cores.{core_of}
use Rattle.formula_arena.specs.Laws.{NodesAreSubtrees}
use Rattle.formula_arena.specs.Nodes.{nodes_of}
use Rattle.formula_arena.specs.Subtrees.{IsSubtree, children_of, whole, below}

module _ (p : Interval → Bool) where
  -- each interval of the formula passes
  abbrev pub Pass : Form → Type 0
  Pass f = list_all p (intervals_of f) ≡ true

  both : (xs ys : List Interval) → list_all p xs ≡ true → list_all p ys ≡ true → list_all p (xs ++ ys) ≡ true
  both xs ys first second = list_all-append p xs ys ∙ and_from (list_all p xs) (list_all p ys) first second

  parts : (xs ys : List Interval) → list_all p (xs ++ ys) ≡ true → (list_all p xs ≡ true) × (list_all p ys ≡ true)
  parts xs ys all = and_parts (list_all p xs) (list_all p ys) (sym (list_all-append p xs ys) ∙ all)

  -- one interval and those of two formulas
  around : (I : Interval) (xs ys : List Interval) → list_all p (xs ++ I ∷ ys) ≡ true → (list_all p xs ≡ true) × (p I ≡ true) × (list_all p ys ≡ true)
  around I xs ys all =
      let two = parts xs (I ∷ ys) all in
      let last = and_parts (p I) (list_all p ys) two.1 in
      (two.0, last.0, last.1)

  with_one : (I : Interval) (xs ys : List Interval) → list_all p xs ≡ true → p I ≡ true → list_all p ys ≡ true → list_all p (xs ++ I ∷ ys) ≡ true
  with_one I xs ys first is second = both xs (I ∷ ys) first (and_from (p I) (list_all p ys) is second)

  -- so it is with its core
  pub core-passes : (f : Form) → Pass f → Pass (core_of f)
  core-passes True all = refl
  core-passes False all = refl
  core-passes (Prop host name) all = refl
  core-passes (Not f) all = core-passes f all
  core-passes (And f g) all = let two = parts (intervals_of f) (intervals_of g) all in both (intervals_of (core_of f)) (intervals_of (core_of g)) (core-passes f two.0) (core-passes g two.1)
  core-passes (Or f g) all = let two = parts (intervals_of f) (intervals_of g) all in both (intervals_of (core_of f)) (intervals_of (core_of g)) (core-passes f two.0) (core-passes g two.1)
  core-passes (Implies f g) all = let two = parts (intervals_of f) (intervals_of g) all in both (intervals_of (core_of f)) (intervals_of (core_of g)) (core-passes f two.0) (core-passes g two.1)
  core-passes (Until I f g) all = let three = around I (intervals_of f) (intervals_of g) all in
      with_one I (intervals_of (core_of f)) (intervals_of (core_of g)) (core-passes f three.0) three.1 (core-passes g three.2)
  core-passes (Since I f g) all = let three = around I (intervals_of f) (intervals_of g) all in
      with_one I (intervals_of (core_of f)) (intervals_of (core_of g)) (core-passes f three.0) three.1 (core-passes g three.2)
  core-passes (Eventually I f) all = let two = and_parts (p I) (list_all p (intervals_of f)) all in and_from (p I) (list_all p (intervals_of (core_of f))) two.0 (core-passes f two.1)
  core-passes (Always I f) all = let two = and_parts (p I) (list_all p (intervals_of f)) all in and_from (p I) (list_all p (intervals_of (core_of f))) two.0 (core-passes f two.1)
  core-passes (Once I f) all = let two = and_parts (p I) (list_all p (intervals_of f)) all in and_from (p I) (list_all p (intervals_of (core_of f))) two.0 (core-passes f two.1)
  core-passes (Historically I f) all = let two = and_parts (p I) (list_all p (intervals_of f)) all in and_from (p I) (list_all p (intervals_of (core_of f))) two.0 (core-passes f two.1)

  -- and with the children, ..
  one-child : (f h : Form) → Pass f → Contains (f ∷ []) h → Pass h
  one-child f h all has = elim (contains_cases f h [] has) [ inl here ↦ subst Pass here all | inr there ↦ absurd (contains_none h there) ]

  two-children : (f g h : Form) → Pass f → Pass g → Contains (f ∷ g ∷ []) h → Pass h
  two-children f g h left right has = elim (contains_cases f h (g ∷ []) has) [ inl here ↦ subst Pass here left | inr there ↦ one-child g h right there ]

  child-passes : (f h : Form) → Pass f → Contains (children_of f) h → Pass h
  child-passes True h all has = absurd (contains_none h has)
  child-passes False h all has = absurd (contains_none h has)
  child-passes (Prop host name) h all has = absurd (contains_none h has)
  child-passes (Not f) h all has = one-child f h all has
  child-passes (And f g) h all has = let two = parts (intervals_of f) (intervals_of g) all in two-children f g h two.0 two.1 has
  child-passes (Or f g) h all has = let two = parts (intervals_of f) (intervals_of g) all in two-children f g h two.0 two.1 has
  child-passes (Implies f g) h all has = let two = parts (intervals_of f) (intervals_of g) all in two-children f g h two.0 two.1 has
  child-passes (Until I f g) h all has = let three = around I (intervals_of f) (intervals_of g) all in two-children f g h three.0 three.2 has
  child-passes (Since I f g) h all has = let three = around I (intervals_of f) (intervals_of g) all in two-children f g h three.0 three.2 has
  child-passes (Eventually I f) h all has = one-child f h (and_parts (p I) (list_all p (intervals_of f)) all).1 has
  child-passes (Always I f) h all has = one-child f h (and_parts (p I) (list_all p (intervals_of f)) all).1 has
  child-passes (Once I f) h all has = one-child f h (and_parts (p I) (list_all p (intervals_of f)) all).1 has
  child-passes (Historically I f) h all has = one-child f h (and_parts (p I) (list_all p (intervals_of f)) all).1 has

  -- .. and so with all subtrees
  subtree-passes : (g f : Form) → IsSubtree g f → Pass f → Pass g
  subtree-passes g f whole all = all
  subtree-passes g f (below k h has sub) all = subtree-passes g h sub (child-passes k h all has)

  -- the intervals of an until and of a since among them
  pub until-passes : (I : Interval) (f g : Form) → Pass (Until I f g) → p I ≡ true
  until-passes I f g all = (around I (intervals_of f) (intervals_of g) all).1

  pub since-passes : (I : Interval) (f g : Form) → Pass (Since I f g) → p I ≡ true
  since-passes I f g all = (around I (intervals_of f) (intervals_of g) all).1

  -- each node of a formula passes
  pub node-passes : NodesAreSubtrees → (f g : Form) → Pass f → Contains (nodes_of f) g → Pass g
  node-passes law f g all has = subtree-passes g (core_of f) ((law.subtrees f g).0 has) (core-passes f all)
