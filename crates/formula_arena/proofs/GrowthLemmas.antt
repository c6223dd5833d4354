-- Lists of trees that grow.
use Rattle.std.proofs.Common.{◌≡◌, ◌∙◌, ◌≤◌, Bool, true, false, not, ◌&&◌, ◌||◌, cond, refl, sym, ap, List, [], ◌∷◌, ◌++◌, length, length-append, append_assoc, if◌then◌else◌, arith}
use Rattle.std.specs.Prelude.{filter}
use Rattle.std.proofs.lemmas.List.{append-nil}
use Rattle.std.proofs.lemmas.List.Elements.{filter_agree}
use Rattle.std.proofs.lemmas.List.Folds.{list_any-append}
use Rattle.mt_model.specs.Form.{Form, True, False, Prop, Not, And, Or, Implies, Until, Since, Eventually, Always, Once, Historically}
use Rattle.formula_arena.specs.Cores.{core_of}
use Rattle.formula_arena.specs.Subtrees.{same_form, subtrees_of}
use Rattle.formula_arena.specs.Nodes.{each_once, has_form, nodes_of, with_nodes_of}
use Rattle.formula_arena.specs.Growth.{with_subtrees, with_tree}
use Rattle.formula_arena.proofs.FormLemmas.{form_same}

-- a tree that is there adds nothing
pub with_tree-old : (trees : List Form) (f : Form) → has_form trees f ≡ true → with_tree trees f ≡ trees
unfolding with_tree
with_tree-old trees f e = ap (λ b. if b then trees else trees ++ f ∷ []) e

-- and another one goes last
pub with_tree-new : (trees : List Form) (f : Form) → has_form trees f ≡ false → with_tree trees f ≡ trees ++ f ∷ []
unfolding with_tree
with_tree-new trees f e = ap (λ b. if b then trees else trees ++ f ∷ []) e

longer_by : (b : Bool) (trees : List Form) (f : Form) → length trees ≤ length (if b then trees else trees ++ f ∷ [])
longer_by true trees f = omega arith
longer_by false trees f = omega (arith, length-append trees (f ∷ []))

-- no list of trees gets shorter
pub longer_with_tree : (trees : List Form) (f : Form) → length trees ≤ length (with_tree trees f)
unfolding with_tree
longer_with_tree trees f = longer_by (has_form trees f) trees f

longer_two : (trees : List Form) (f g h : Form) → length trees ≤ length (with_subtrees trees f) → length (with_subtrees trees f) ≤ length (with_subtrees (with_subtrees trees f) g)
    → length trees ≤ length (with_tree (with_subtrees (with_subtrees trees f) g) h)
longer_two trees f g h p q = omega (arith, longer_with_tree (with_subtrees (with_subtrees trees f) g) h)

longer_one : (trees : List Form) (f h : Form) → length trees ≤ length (with_subtrees trees f) → length trees ≤ length (with_tree (with_subtrees trees f) h)
longer_one trees f h p = omega (arith, longer_with_tree (with_subtrees trees f) h)

pub longer_with_subtrees : (trees : List Form) (f : Form) → length trees ≤ length (with_subtrees trees f)
longer_with_subtrees trees True = longer_with_tree trees True
longer_with_subtrees trees False = longer_with_tree trees False
longer_with_subtrees trees (Prop host name) = longer_with_tree trees (Prop host name)
longer_with_subtrees trees (Not f) = longer_one trees f (Not f) (longer_with_subtrees trees f)
longer_with_subtrees trees (And f g) = longer_two trees f g (And f g) (longer_with_subtrees trees f) (longer_with_subtrees (with_subtrees trees f) g)
longer_with_subtrees trees (Or f g) = longer_two trees f g (Or f g) (longer_with_subtrees trees f) (longer_with_subtrees (with_subtrees trees f) g)
longer_with_subtrees trees (Implies f g) = longer_two trees f g (Implies f g) (longer_with_subtrees trees f) (longer_with_subtrees (with_subtrees trees f) g)
longer_with_subtrees trees (Until I f g) = longer_two trees f g (Until I f g) (longer_with_subtrees trees f) (longer_with_subtrees (with_subtrees trees f) g)
longer_with_subtrees trees (Since I f g) = longer_two trees f g (Since I f g) (longer_with_subtrees trees f) (longer_with_subtrees (with_subtrees trees f) g)
longer_with_subtrees trees (Eventually I f) = longer_one trees f (Eventually I f) (longer_with_subtrees trees f)
longer_with_subtrees trees (Always I f) = longer_one trees f (Always I f) (longer_with_subtrees trees f)
longer_with_subtrees trees (Once I f) = longer_one trees f (Once I f) (longer_with_subtrees trees f)
longer_with_subtrees trees (Historically I f) = longer_one trees f (Historically I f) (longer_with_subtrees trees f)

-- the trees with each of a list in turn
abbrev grown : List Form → List Form → List Form
grown trees [] = trees
grown trees (f ∷ fs) = grown (with_tree trees f) fs

grown-append : (trees fs gs : List Form) → grown trees (fs ++ gs) ≡ grown (grown trees fs) gs
grown-append trees [] gs = refl
grown-append trees (f ∷ fs) gs = grown-append (with_tree trees f) fs gs

grown_one : (trees : List Form) (f h : Form) → with_subtrees trees f ≡ grown trees (subtrees_of f) → with_tree (with_subtrees trees f) h ≡ grown trees (subtrees_of f ++ h ∷ [])
grown_one trees f h p = ap (λ t. with_tree t h) p ∙ sym (grown-append trees (subtrees_of f) (h ∷ []))

grown_two : (trees : List Form) (f g h : Form) → with_subtrees trees f ≡ grown trees (subtrees_of f) → with_subtrees (with_subtrees trees f) g ≡ grown (with_subtrees trees f) (subtrees_of g)
    → with_tree (with_subtrees (with_subtrees trees f) g) h ≡ grown trees (subtrees_of f ++ subtrees_of g ++ h ∷ [])
grown_two trees f g h p q =
    ap (λ t. with_tree t h) (q ∙ ap (λ t. grown t (subtrees_of g)) p ∙ sym (grown-append trees (subtrees_of f) (subtrees_of g)))
    ∙ sym (grown-append trees (subtrees_of f ++ subtrees_of g) (h ∷ []))

with_subtrees-grown : (trees : List Form) (f : Form) → with_subtrees trees f ≡ grown trees (subtrees_of f)
with_subtrees-grown trees True = refl
with_subtrees-grown trees False = refl
with_subtrees-grown trees (Prop host name) = refl
with_subtrees-grown trees (Not f) = grown_one trees f (Not f) (with_subtrees-grown trees f)
with_subtrees-grown trees (And f g) = grown_two trees f g (And f g) (with_subtrees-grown trees f) (with_subtrees-grown (with_subtrees trees f) g)
with_subtrees-grown trees (Or f g) = grown_two trees f g (Or f g) (with_subtrees-grown trees f) (with_subtrees-grown (with_subtrees trees f) g)
with_subtrees-grown trees (Implies f g) = grown_two trees f g (Implies f g) (with_subtrees-grown trees f) (with_subtrees-grown (with_subtrees trees f) g)
with_subtrees-grown trees (Until I f g) = grown_two trees f g (Until I f g) (with_subtrees-grown trees f) (with_subtrees-grown (with_subtrees trees f) g)
with_subtrees-grown trees (Since I f g) = grown_two trees f g (Since I f g) (with_subtrees-grown trees f) (with_subtrees-grown (with_subtrees trees f) g)
with_subtrees-grown trees (Eventually I f) = grown_one trees f (Eventually I f) (with_subtrees-grown trees f)
with_subtrees-grown trees (Always I f) = grown_one trees f (Always I f) (with_subtrees-grown trees f)
with_subtrees-grown trees (Once I f) = grown_one trees f (Once I f) (with_subtrees-grown trees f)
with_subtrees-grown trees (Historically I f) = grown_one trees f (Historically I f) (with_subtrees-grown trees f)

filter_filter : (p q : Form → Bool) (fs : List Form) → filter p (filter q fs) ≡ filter (λ f. q f && p f) fs
filter_filter p q [] = refl
filter_filter p q (f ∷ fs) = by (q f) (filter_filter p q fs)
  where
    by : (b : Bool) → filter p (filter q fs) ≡ filter (λ g. q g && p g) fs
        → filter p (cond b (f ∷ filter q fs) (filter q fs)) ≡ cond (b && p f) (f ∷ filter (λ g. q g && p g) fs) (filter (λ g. q g && p g) fs)
    by true e = ap (λ l. cond (p f) (f ∷ l) l) e
    by false e = e

-- those of a list that aren't among the trees
abbrev missing : List Form → List Form → List Form
missing trees fs = filter (λ g. not (has_form trees g)) fs

-- a tree that is there is not missing, nor is an equal one
lacks_old : (trees : List Form) (f g : Form) → has_form trees f ≡ true → (not (same_form g f) && not (has_form trees g)) ≡ not (has_form trees g)
lacks_old trees f g e = by (same_form g f) refl
  where
    by : (b : Bool) → same_form g f ≡ b → (not b && not (has_form trees g)) ≡ not (has_form trees g)
    by true s = sym (ap (λ h. not (has_form trees h)) (form_same g f s) ∙ ap not e)
    by false s = refl

missing_old : (trees : List Form) (f : Form) (fs : List Form) → has_form trees f ≡ true → missing trees (each_once (f ∷ fs)) ≡ missing trees (each_once fs)
missing_old trees f fs e =
    ap (λ b. cond (not b) (f ∷ missing trees (filter (λ g. not (same_form g f)) (each_once fs))) (missing trees (filter (λ g. not (same_form g f)) (each_once fs)))) e
    ∙ filter_filter (λ g. not (has_form trees g)) (λ g. not (same_form g f)) (each_once fs)
    ∙ filter_agree _ _ (λ g. lacks_old trees f g e) (each_once fs)

not-or : (a b : Bool) → (not a && not b) ≡ not (b || (a || false))
not-or true true = refl
not-or true false = refl
not-or false true = refl
not-or false false = refl

lacks_new : (trees : List Form) (f g : Form) → (not (same_form g f) && not (has_form trees g)) ≡ not (has_form (trees ++ f ∷ []) g)
lacks_new trees f g = not-or (same_form g f) (has_form trees g) ∙ ap not (sym (list_any-append (same_form g) trees (f ∷ [])))

missing_new : (trees : List Form) (f : Form) (fs : List Form) → has_form trees f ≡ false
    → trees ++ missing trees (each_once (f ∷ fs)) ≡ (trees ++ f ∷ []) ++ missing (trees ++ f ∷ []) (each_once fs)
missing_new trees f fs e =
    ap (λ b. trees ++ cond (not b) (f ∷ missing trees (filter (λ g. not (same_form g f)) (each_once fs))) (missing trees (filter (λ g. not (same_form g f)) (each_once fs)))) e
    ∙ ap (λ l. trees ++ f ∷ l) (filter_filter (λ g. not (has_form trees g)) (λ g. not (same_form g f)) (each_once fs) ∙ filter_agree _ _ (λ g. lacks_new trees f g) (each_once fs))
    ∙ sym (append_assoc trees (f ∷ []) (missing (trees ++ f ∷ []) (each_once fs)))

grown_more : (trees : List Form) (f : Form) (fs : List Form) → grown trees fs ≡ trees ++ missing trees (each_once fs)
    → grown (trees ++ f ∷ []) fs ≡ (trees ++ f ∷ []) ++ missing (trees ++ f ∷ []) (each_once fs)
    → grown (with_tree trees f) fs ≡ trees ++ missing trees (each_once (f ∷ fs))
grown_more trees f fs old new = by (has_form trees f) refl
  where
    by : (b : Bool) → has_form trees f ≡ b → grown (with_tree trees f) fs ≡ trees ++ missing trees (each_once (f ∷ fs))
    by true e = ap (λ t. grown t fs) (with_tree-old trees f e) ∙ old ∙ ap (λ l. trees ++ l) (sym (missing_old trees f fs e))
    by false e = ap (λ t. grown t fs) (with_tree-new trees f e) ∙ new ∙ sym (missing_new trees f fs e)

grown-missing : (trees fs : List Form) → grown trees fs ≡ trees ++ missing trees (each_once fs)
grown-missing trees [] = sym (append-nil trees)
grown-missing trees (f ∷ fs) = grown_more trees f fs (grown-missing trees fs) (grown-missing (trees ++ f ∷ []) fs)

-- a walk over the core adds the nodes that aren't there
pub with_subtrees_nodes : (trees : List Form) (f : Form) → with_subtrees trees (core_of f) ≡ with_nodes_of trees f
with_subtrees_nodes trees f = with_subtrees-grown trees (core_of f) ∙ grown-missing trees (subtrees_of (core_of f))

filter_all : (fs : List Form) → filter (λ g. true) fs ≡ fs
filter_all [] = refl
filter_all (f ∷ fs) = ap (λ l. f ∷ l) (filter_all fs)

-- and all of them, where there is none
pub with_subtrees_first : (f : Form) → with_subtrees [] (core_of f) ≡ nodes_of f
with_subtrees_first f = with_subtrees_nodes [] f ∙ filter_all (nodes_of f)
