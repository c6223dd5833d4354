-- Lists of distinct trees, each after its children.
use Rattle.std.proofs.Common.{◌≡◌, ◌∙◌, ℕ, ◌≤◌, ◌<◌, ◌+◌, ◌-◌, Bool, true, false, ◌⊎◌, inl, inr, refl, sym, ap, subst, List, [], ◌∷◌, ◌++◌, length, length-append, arith}
use Rattle.std.specs.Prelude.{All, Contains}
use Rattle.std.proofs.lemmas.Bool.{cases_lt}
use Rattle.std.proofs.lemmas.List.{get_or_append_left, get_or_push, get_or_default, length_push}
use Rattle.std.proofs.lemmas.List.Elements.{All-cons, All-nil, All-weaker, All-contains}
use Rattle.mt_model.specs.Form.{Form, True, False, Prop, Not, And, Or, Implies, Until, Since, Eventually, Always, Once, Historically, height_of}
use Rattle.formula_arena.specs.Subtrees.{IsSubtree, whole, below, children_of}
use Rattle.formula_arena.specs.Nodes.{IsAt, StandsBefore, has_form, tree_at}
use Rattle.formula_arena.specs.Growth.{with_subtrees, with_tree}
use Rattle.formula_arena.proofs.FormLemmas.{at_from_has, has_from_at, lacks_from_none}
use Rattle.formula_arena.proofs.GrowthLemmas.{with_tree-new, with_tree-old}

pub record Orderly (trees : List Form) : Type 0 where
  pub once : (j k : ℕ) → j < length trees → k < length trees → tree_at trees j ≡ tree_at trees k → j ≡ k
  pub children_first : (k : ℕ) → k < length trees → All (StandsBefore trees k) (children_of (tree_at trees k))

-- f is one of the trees
pub record Has (trees : List Form) (f : Form) : Type 0 where
  pub number : ℕ
  pub at : IsAt trees number f

pub at-old : (trees fs : List Form) (k : ℕ) → k < length trees → tree_at (trees ++ fs) k ≡ tree_at trees k
at-old trees fs k within = get_or_append_left trees fs True k within

pub at-new : (trees : List Form) (f : Form) → tree_at (trees ++ f ∷ []) (length trees) ≡ f
at-new trees f = get_or_push trees f True (length trees) refl

pub IsAt-old : (trees fs : List Form) (k : ℕ) (f : Form) → IsAt trees k f → IsAt (trees ++ fs) k f
IsAt-old trees fs k f at = (let within = at.0 in omega (arith, length-append trees fs), at-old trees fs k at.0 ∙ at.1)

pub IsAt-new : (trees : List Form) (f : Form) → IsAt (trees ++ f ∷ []) (length trees) f
IsAt-new trees f = (omega (arith, length_push trees f), at-new trees f)

pub at-push-cases : (trees : List Form) (f : Form) (k : ℕ) → k < length (trees ++ f ∷ []) → (k < length trees) ⊎ (k ≡ length trees)
at-push-cases trees f k within = elim (cases_lt k (length trees)) [
  | inl old ↦ inl old
  | inr new ↦ inr (omega (arith, length_push trees f))
]

none_at : (trees : List Form) (f : Form) (k : ℕ) → has_form trees f ≡ false → IsAt trees k f → ⊥
none_at trees f k absent at = absurd (cc (has_from_at trees f k at))

module _ (trees : List Form) (f : Form) (absent : has_form trees f ≡ false) where
  once_more : ((j k : ℕ) → j < length trees → k < length trees → tree_at trees j ≡ tree_at trees k → j ≡ k)
      → (j k : ℕ) → j < length (trees ++ f ∷ []) → k < length (trees ++ f ∷ []) → tree_at (trees ++ f ∷ []) j ≡ tree_at (trees ++ f ∷ []) k → j ≡ k
  once_more once j k in_j in_k e = elim (at-push-cases trees f j in_j) [
    | inl old_j ↦ elim (at-push-cases trees f k in_k) [
      | inl old_k ↦ once j k old_j old_k (sym (at-old trees (f ∷ []) j old_j) ∙ e ∙ at-old trees (f ∷ []) k old_k)
      | inr new_k ↦ absurd (none_at trees f j absent (old_j, sym (at-old trees (f ∷ []) j old_j) ∙ e ∙ ap (tree_at (trees ++ f ∷ [])) new_k ∙ at-new trees f))
    ]
    | inr new_j ↦ elim (at-push-cases trees f k in_k) [
      | inl old_k ↦ absurd (none_at trees f k absent (old_k, sym (at-old trees (f ∷ []) k old_k) ∙ sym e ∙ ap (tree_at (trees ++ f ∷ [])) new_j ∙ at-new trees f))
      | inr new_k ↦ new_j ∙ sym new_k
    ]
  ]

  children_more : ((k : ℕ) → k < length trees → All (StandsBefore trees k) (children_of (tree_at trees k))) → All (Has trees) (children_of f)
      → (k : ℕ) → k < length (trees ++ f ∷ []) → All (StandsBefore (trees ++ f ∷ []) k) (children_of (tree_at (trees ++ f ∷ []) k))
  children_more first children k in_k = elim (at-push-cases trees f k in_k) [
    | inl old ↦ subst (λ g. All (StandsBefore (trees ++ f ∷ []) k) (children_of g)) (sym (at-old trees (f ∷ []) k old))
        (All-weaker (StandsBefore trees k) (StandsBefore (trees ++ f ∷ []) k)
        (λ g h. let less = h.1 in (h.0, less, at-old trees (f ∷ []) h.0 (omega arith) ∙ h.2)) (children_of (tree_at trees k)) (first k old))
    | inr new ↦ subst (λ g. All (StandsBefore (trees ++ f ∷ []) k) (children_of g)) (sym (ap (tree_at (trees ++ f ∷ [])) new ∙ at-new trees f))
        (All-weaker (Has trees) (StandsBefore (trees ++ f ∷ []) k) (λ g h. let within = h.at.0 in (h.number, omega arith, at-old trees (f ∷ []) h.number within ∙ h.at.1)) (children_of f) children)
  ]

  pub orderly-push : Orderly trees → All (Has trees) (children_of f) → Orderly (trees ++ f ∷ [])
  orderly-push o children = record { once = once_more o.once; children_first = children_more o.children_first children }

pub orderly-nil : Orderly []
orderly-nil = record { once = λ j k in_j in_k e. absurd (omega arith); children_first = λ k in_k. absurd (omega arith) }

orderly-with_tree : (trees : List Form) (f : Form) → Orderly trees → All (Has trees) (children_of f) → Orderly (with_tree trees f)
orderly-with_tree trees f o children = by (has_form trees f) refl
  where
    by : (b : Bool) → has_form trees f ≡ b → Orderly (with_tree trees f)
    by true e = subst Orderly (sym (with_tree-old trees f e)) o
    by false e = subst Orderly (sym (with_tree-new trees f e)) (orderly-push trees f e o children)

has-old : (trees fs : List Form) (f : Form) → Has trees f → Has (trees ++ fs) f
has-old trees fs f has = record { number = has.number; at = IsAt-old trees fs has.number f has.at }

-- what was there stays, and what is added is there
has-with_tree_old : (trees : List Form) (f g : Form) → Has trees g → Has (with_tree trees f) g
has-with_tree_old trees f g has = by (has_form trees f) refl
  where
    by : (b : Bool) → has_form trees f ≡ b → Has (with_tree trees f) g
    by true e = subst (λ t. Has t g) (sym (with_tree-old trees f e)) has
    by false e = subst (λ t. Has t g) (sym (with_tree-new trees f e)) (has-old trees (f ∷ []) g has)

has-with_tree : (trees : List Form) (f : Form) → Has (with_tree trees f) f
has-with_tree trees f = by (has_form trees f) refl
  where
    by : (b : Bool) → has_form trees f ≡ b → Has (with_tree trees f) f
    by true e = subst (λ t. Has t f) (sym (with_tree-old trees f e)) (let at = at_from_has trees f e in record { number = at.0; at = at.1 })
    by false e = subst (λ t. Has t f) (sym (with_tree-new trees f e)) (record { number = length trees; at = IsAt-new trees f })

has-with_subtrees_old : (trees : List Form) (g : Form) (f : Form) → Has trees g → Has (with_subtrees trees f) g
has-with_subtrees_old trees x True h = has-with_tree_old trees True x h
has-with_subtrees_old trees x False h = has-with_tree_old trees False x h
has-with_subtrees_old trees x (Prop host name) h = has-with_tree_old trees (Prop host name) x h
has-with_subtrees_old trees x (Not f) h = has-with_tree_old (with_subtrees trees f) (Not f) x (has-with_subtrees_old trees x f h)
has-with_subtrees_old trees x (And f g) h =
    has-with_tree_old (with_subtrees (with_subtrees trees f) g) (And f g) x (has-with_subtrees_old (with_subtrees trees f) x g (has-with_subtrees_old trees x f h))
has-with_subtrees_old trees x (Or f g) h =
    has-with_tree_old (with_subtrees (with_subtrees trees f) g) (Or f g) x (has-with_subtrees_old (with_subtrees trees f) x g (has-with_subtrees_old trees x f h))
has-with_subtrees_old trees x (Implies f g) h =
    has-with_tree_old (with_subtrees (with_subtrees trees f) g) (Implies f g) x (has-with_subtrees_old (with_subtrees trees f) x g (has-with_subtrees_old trees x f h))
has-with_subtrees_old trees x (Until I f g) h =
    has-with_tree_old (with_subtrees (with_subtrees trees f) g) (Until I f g) x (has-with_subtrees_old (with_subtrees trees f) x g (has-with_subtrees_old trees x f h))
has-with_subtrees_old trees x (Since I f g) h =
    has-with_tree_old (with_subtrees (with_subtrees trees f) g) (Since I f g) x (has-with_subtrees_old (with_subtrees trees f) x g (has-with_subtrees_old trees x f h))
has-with_subtrees_old trees x (Eventually I f) h = has-with_tree_old (with_subtrees trees f) (Eventually I f) x (has-with_subtrees_old trees x f h)
has-with_subtrees_old trees x (Always I f) h = has-with_tree_old (with_subtrees trees f) (Always I f) x (has-with_subtrees_old trees x f h)
has-with_subtrees_old trees x (Once I f) h = has-with_tree_old (with_subtrees trees f) (Once I f) x (has-with_subtrees_old trees x f h)
has-with_subtrees_old trees x (Historically I f) h = has-with_tree_old (with_subtrees trees f) (Historically I f) x (has-with_subtrees_old trees x f h)

pub has-with_subtrees : (trees : List Form) (f : Form) → Has (with_subtrees trees f) f
has-with_subtrees trees True = has-with_tree trees True
has-with_subtrees trees False = has-with_tree trees False
has-with_subtrees trees (Prop host name) = has-with_tree trees (Prop host name)
has-with_subtrees trees (Not f) = has-with_tree (with_subtrees trees f) (Not f)
has-with_subtrees trees (And f g) = has-with_tree (with_subtrees (with_subtrees trees f) g) (And f g)
has-with_subtrees trees (Or f g) = has-with_tree (with_subtrees (with_subtrees trees f) g) (Or f g)
has-with_subtrees trees (Implies f g) = has-with_tree (with_subtrees (with_subtrees trees f) g) (Implies f g)
has-with_subtrees trees (Until I f g) = has-with_tree (with_subtrees (with_subtrees trees f) g) (Until I f g)
has-with_subtrees trees (Since I f g) = has-with_tree (with_subtrees (with_subtrees trees f) g) (Since I f g)
has-with_subtrees trees (Eventually I f) = has-with_tree (with_subtrees trees f) (Eventually I f)
has-with_subtrees trees (Always I f) = has-with_tree (with_subtrees trees f) (Always I f)
has-with_subtrees trees (Once I f) = has-with_tree (with_subtrees trees f) (Once I f)
has-with_subtrees trees (Historically I f) = has-with_tree (with_subtrees trees f) (Historically I f)

orderly_one : (trees : List Form) (f h : Form) → children_of h ≡ f ∷ [] → Orderly (with_subtrees trees f) → Orderly (with_tree (with_subtrees trees f) h)
orderly_one trees f h e o =
    orderly-with_tree (with_subtrees trees f) h o
    (subst (All (Has (with_subtrees trees f))) (sym e) (All-cons (Has (with_subtrees trees f)) f [] (has-with_subtrees trees f) (All-nil (Has (with_subtrees trees f)))))

orderly_two : (trees : List Form) (f g h : Form) → children_of h ≡ f ∷ g ∷ [] → Orderly (with_subtrees (with_subtrees trees f) g) → Orderly (with_tree (with_subtrees (with_subtrees trees f) g) h)
orderly_two trees f g h e o =
    let P : Form → Type 0 = Has (with_subtrees (with_subtrees trees f) g) in
    orderly-with_tree (with_subtrees (with_subtrees trees f) g) h o
    (subst (All P) (sym e)
    (All-cons P f (g ∷ []) (has-with_subtrees_old (with_subtrees trees f) f g (has-with_subtrees trees f)) (All-cons P g [] (has-with_subtrees (with_subtrees trees f) g) (All-nil P))))

pub orderly-with_subtrees : (trees : List Form) (f : Form) → Orderly trees → Orderly (with_subtrees trees f)
orderly-with_subtrees trees True o = orderly-with_tree trees True o (All-nil (Has trees))
orderly-with_subtrees trees False o = orderly-with_tree trees False o (All-nil (Has trees))
orderly-with_subtrees trees (Prop host name) o = orderly-with_tree trees (Prop host name) o (All-nil (Has trees))
orderly-with_subtrees trees (Not f) o = orderly_one trees f (Not f) refl (orderly-with_subtrees trees f o)
orderly-with_subtrees trees (And f g) o = orderly_two trees f g (And f g) refl (orderly-with_subtrees (with_subtrees trees f) g (orderly-with_subtrees trees f o))
orderly-with_subtrees trees (Or f g) o = orderly_two trees f g (Or f g) refl (orderly-with_subtrees (with_subtrees trees f) g (orderly-with_subtrees trees f o))
orderly-with_subtrees trees (Implies f g) o = orderly_two trees f g (Implies f g) refl (orderly-with_subtrees (with_subtrees trees f) g (orderly-with_subtrees trees f o))
orderly-with_subtrees trees (Until I f g) o = orderly_two trees f g (Until I f g) refl (orderly-with_subtrees (with_subtrees trees f) g (orderly-with_subtrees trees f o))
orderly-with_subtrees trees (Since I f g) o = orderly_two trees f g (Since I f g) refl (orderly-with_subtrees (with_subtrees trees f) g (orderly-with_subtrees trees f o))
orderly-with_subtrees trees (Eventually I f) o = orderly_one trees f (Eventually I f) refl (orderly-with_subtrees trees f o)
orderly-with_subtrees trees (Always I f) o = orderly_one trees f (Always I f) refl (orderly-with_subtrees trees f o)
orderly-with_subtrees trees (Once I f) o = orderly_one trees f (Once I f) refl (orderly-with_subtrees trees f o)
orderly-with_subtrees trees (Historically I f) o = orderly_one trees f (Historically I f) refl (orderly-with_subtrees trees f o)

-- what stands in a list with one more tree stood there before, or is that tree
from-with_tree : (trees : List Form) (f g : Form) → Has (with_tree trees f) g → Has trees g ⊎ (f ≡ g)
from-with_tree trees f g = by (has_form trees f) refl
  where
    pushed : (k : ℕ) → IsAt (trees ++ f ∷ []) k g → Has trees g ⊎ (f ≡ g)
    pushed k at = elim (at-push-cases trees f k at.0) [
      | inl old ↦ inl (record { number = k; at = (old, sym (at-old trees (f ∷ []) k old) ∙ at.1) })
      | inr new ↦ inr (sym (ap (tree_at (trees ++ f ∷ [])) new ∙ at-new trees f) ∙ at.1)
    ]

    by : (b : Bool) → has_form trees f ≡ b → Has (with_tree trees f) g → Has trees g ⊎ (f ≡ g)
    by true e has = inl (subst (λ t. Has t g) (with_tree-old trees f e) has)
    by false e has = let there = subst (λ t. Has t g) (with_tree-new trees f e) has in pushed there.number there.at

only_child : (f : Form) → Contains (f ∷ []) f
only_child f = (0, omega arith, refl)

left_child : (f g : Form) → Contains (f ∷ g ∷ []) f
left_child f g = (0, omega arith, refl)

right_child : (f g : Form) → Contains (f ∷ g ∷ []) g
right_child f g = (1, omega arith, refl)

from_leaf : (trees : List Form) (x h : Form) → Has (with_tree trees h) x → Has trees x ⊎ IsSubtree x h
from_leaf trees x h has = elim (from-with_tree trees h x has) [
  | inl old ↦ inl old
  | inr e ↦ inr (subst (IsSubtree x) (sym e) whole)
]

from_one : (trees : List Form) (x f h : Form) → Contains (children_of h) f → (Has (with_subtrees trees f) x → Has trees x ⊎ IsSubtree x f)
    → Has (with_tree (with_subtrees trees f) h) x → Has trees x ⊎ IsSubtree x h
from_one trees x f h child from has = elim (from_leaf (with_subtrees trees f) x h has) [
  | inl old ↦ elim (from old) [ inl older ↦ inl older | inr sub ↦ inr (below h f child sub) ]
  | inr sub ↦ inr sub
]

from_two : (trees : List Form) (x f g h : Form) → Contains (children_of h) f → Contains (children_of h) g → (Has (with_subtrees trees f) x → Has trees x ⊎ IsSubtree x f)
    → (Has (with_subtrees (with_subtrees trees f) g) x → Has (with_subtrees trees f) x ⊎ IsSubtree x g) → Has (with_tree (with_subtrees (with_subtrees trees f) g) h) x → Has trees x ⊎ IsSubtree x h
from_two trees x f g h left right from_f from_g has = elim (from_one (with_subtrees trees f) x g h right from_g has) [
  | inl old ↦ elim (from_f old) [ inl older ↦ inl older | inr sub ↦ inr (below h f left sub) ]
  | inr sub ↦ inr sub
]

-- what stands in a list with the subtrees of a tree stood there before, or is one of them
pub from-with_subtrees : (trees : List Form) (x : Form) (f : Form) → Has (with_subtrees trees f) x → Has trees x ⊎ IsSubtree x f
from-with_subtrees trees x True = from_leaf trees x True
from-with_subtrees trees x False = from_leaf trees x False
from-with_subtrees trees x (Prop host name) = from_leaf trees x (Prop host name)
from-with_subtrees trees x (Not f) = from_one trees x f (Not f) (only_child f) (from-with_subtrees trees x f)
from-with_subtrees trees x (And f g) = from_two trees x f g (And f g) (left_child f g) (right_child f g) (from-with_subtrees trees x f) (from-with_subtrees (with_subtrees trees f) x g)
from-with_subtrees trees x (Or f g) = from_two trees x f g (Or f g) (left_child f g) (right_child f g) (from-with_subtrees trees x f) (from-with_subtrees (with_subtrees trees f) x g)
from-with_subtrees trees x (Implies f g) = from_two trees x f g (Implies f g) (left_child f g) (right_child f g) (from-with_subtrees trees x f) (from-with_subtrees (with_subtrees trees f) x g)
from-with_subtrees trees x (Until I f g) = from_two trees x f g (Until I f g) (left_child f g) (right_child f g) (from-with_subtrees trees x f) (from-with_subtrees (with_subtrees trees f) x g)
from-with_subtrees trees x (Since I f g) = from_two trees x f g (Since I f g) (left_child f g) (right_child f g) (from-with_subtrees trees x f) (from-with_subtrees (with_subtrees trees f) x g)
from-with_subtrees trees x (Eventually I f) = from_one trees x f (Eventually I f) (only_child f) (from-with_subtrees trees x f)
from-with_subtrees trees x (Always I f) = from_one trees x f (Always I f) (only_child f) (from-with_subtrees trees x f)
from-with_subtrees trees x (Once I f) = from_one trees x f (Once I f) (only_child f) (from-with_subtrees trees x f)
from-with_subtrees trees x (Historically I f) = from_one trees x f (Historically I f) (only_child f) (from-with_subtrees trees x f)

lower_one : (f : Form) (n : ℕ) → height_of f < n → All (λ h. height_of h < n) (f ∷ [])
lower_one f n p = All-cons (λ h. height_of h < n) f [] p (All-nil (λ h. height_of h < n))

lower_two : (f g : Form) (n : ℕ) → height_of f < n → height_of g < n → All (λ h. height_of h < n) (f ∷ g ∷ [])
lower_two f g n p q = All-cons (λ h. height_of h < n) f (g ∷ []) p (lower_one g n q)

children-lower : (f : Form) → All (λ h. height_of h < height_of f) (children_of f)
children-lower True = All-nil (λ h. height_of h < 1)
children-lower False = All-nil (λ h. height_of h < 1)
children-lower (Prop host name) = All-nil (λ h. height_of h < 1)
children-lower (Not f) = lower_one f _ (omega arith)
children-lower (And f g) = lower_two f g _ (omega arith) (omega arith)
children-lower (Or f g) = lower_two f g _ (omega arith) (omega arith)
children-lower (Implies f g) = lower_two f g _ (omega arith) (omega arith)
children-lower (Until I f g) = lower_two f g _ (omega arith) (omega arith)
children-lower (Since I f g) = lower_two f g _ (omega arith) (omega arith)
children-lower (Eventually I f) = lower_one f _ (omega arith)
children-lower (Always I f) = lower_one f _ (omega arith)
children-lower (Once I f) = lower_one f _ (omega arith)
children-lower (Historically I f) = lower_one f _ (omega arith)

-- no subtree is higher than the tree
pub subtree-lower : (x f : Form) → IsSubtree x f → height_of x ≤ height_of f
subtree-lower x f whole = omega arith
subtree-lower x f (below g h child sub) =
    let lower : height_of h < height_of f = All-contains (λ k. height_of k < height_of f) (children_of f) h (children-lower f) child in
    omega (arith, subtree-lower x h sub)

-- a tree stands last in the list of its subtrees
abbrev pub Last : List Form → Form → Type 0
Last trees f = (0 < length trees) × (tree_at trees (length trees - 1) ≡ f)

last-push : (trees : List Form) (f : Form) → Last (trees ++ f ∷ []) f
last-push trees f = (omega (arith, length_push trees f), ap (tree_at (trees ++ f ∷ [])) (omega (arith, length_push trees f)) ∙ at-new trees f)

pub none_of_nil : (f : Form) → Has [] f → ⊥
none_of_nil f has = let within = has.at.0 in absurd (omega arith)

last-with_tree : (trees : List Form) (f : Form) → (Has trees f → ⊥) → Last (with_tree trees f) f
last-with_tree trees f none = let absent = lacks_from_none trees f (λ k at. none (record { number = k; at = at })) in subst (λ t. Last t f) (sym (with_tree-new trees f absent)) (last-push trees f)

last_one : (f h : Form) → height_of f < height_of h → Last (with_tree (with_subtrees [] f) h) h
last_one f h lower = last-with_tree (with_subtrees [] f) h (λ has. elim (from-with_subtrees [] h f has) [
  | inl none ↦ none_of_nil h none
  | inr sub ↦ absurd (omega (arith, subtree-lower h f sub))
])

last_two : (f g h : Form) → height_of f < height_of h → height_of g < height_of h → Last (with_tree (with_subtrees (with_subtrees [] f) g) h) h
last_two f g h lower_f lower_g = last-with_tree (with_subtrees (with_subtrees [] f) g) h (λ has. elim (from-with_subtrees (with_subtrees [] f) h g has) [
  | inl old ↦ elim (from-with_subtrees [] h f old) [
    | inl none ↦ none_of_nil h none
    | inr sub ↦ absurd (omega (arith, subtree-lower h f sub))
  ]
  | inr sub ↦ absurd (omega (arith, subtree-lower h g sub))
])

pub last-with_subtrees : (f : Form) → Last (with_subtrees [] f) f
last-with_subtrees True = last-with_tree [] True (none_of_nil True)
last-with_subtrees False = last-with_tree [] False (none_of_nil False)
last-with_subtrees (Prop host name) = last-with_tree [] (Prop host name) (none_of_nil (Prop host name))
last-with_subtrees (Not f) = last_one f (Not f) (omega arith)
last-with_subtrees (And f g) = last_two f g (And f g) (omega arith) (omega arith)
last-with_subtrees (Or f g) = last_two f g (Or f g) (omega arith) (omega arith)
last-with_subtrees (Implies f g) = last_two f g (Implies f g) (omega arith) (omega arith)
last-with_subtrees (Until I f g) = last_two f g (Until I f g) (omega arith) (omega arith)
last-with_subtrees (Since I f g) = last_two f g (Since I f g) (omega arith) (omega arith)
last-with_subtrees (Eventually I f) = last_one f (Eventually I f) (omega arith)
last-with_subtrees (Always I f) = last_one f (Always I f) (omega arith)
last-with_subtrees (Once I f) = last_one f (Once I f) (omega arith)
last-with_subtrees (Historically I f) = last_one f (Historically I f) (omega arith)

pub has-contains : (trees : List Form) (f : Form) → Has trees f → Contains trees f
has-contains trees f has = (has.number, has.at.0, get_or_default trees has.number f True has.at.0 ∙ has.at.1)

pub contains-has : (trees : List Form) (f : Form) → Contains trees f → Has trees f
contains-has trees f there = record { number = there.0; at = (there.1, get_or_default trees there.0 True f there.1 ∙ there.2) }

before-has : (trees : List Form) (k : ℕ) (f : Form) → k < length trees → StandsBefore trees k f → Has trees f
before-has trees k f within before = let less = before.1 in record { number = before.0; at = (omega arith, before.2) }

-- with a tree, its subtrees are there
pub has-subtree : (trees : List Form) → Orderly trees → (x f : Form) → IsSubtree x f → Has trees f → Has trees x
has-subtree trees o x f whole has = has
has-subtree trees o x f (below g h child sub) has =
    let children : All (StandsBefore trees has.number) (children_of f) = subst (λ t. All (StandsBefore trees has.number) (children_of t)) has.at.1 (o.children_first has.number has.at.0) in
    has-subtree trees o x h sub (before-has trees has.number h has.at.0 (All-contains (StandsBefore trees has.number) (children_of f) h children child))
