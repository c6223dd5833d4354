-- A table of nodes and propositions stays one as nodes are added to it.
use Rattle.std.proofs.Common.{◌≡◌, ◌∙◌, ℕ, ◌≤◌, ◌<◌, ◌+◌, Bool, true, false, cond, inl, inr, refl, sym, ap, subst, List, [], ◌∷◌, ◌++◌, length, length-append, map, slice_get, slice_index_or, Some, true≢false, arith}
use Rattle.std.specs.Prelude.{All, Contains}
use Rattle.std.specs.Option.{option_map, option_map_or}
use Rattle.std.proofs.lemmas.Option.{get_or_from_slice_get, slice_get-map, slice_get_cases, slice_get_read, slice_get_within}
use Rattle.std.proofs.lemmas.List.{append-nil, length-map, map-append, length_push}
use Rattle.std.proofs.lemmas.List.Elements.{All-cons, All-contains, All-map, All-nil, All-push, All-weaker, filter-append}
use Rattle.mt_model.specs.Form.{Form, True, Not, And, Until, Since}
use Rattle.formula_arena.specs.declared.arena.TheConstants.{MAX_NODES}
use Rattle.formula_arena.specs.declared.node.Core.{Core}
use Rattle.formula_arena.specs.declared.node.Core.TheVariants as core
use Rattle.formula_arena.specs.declared.node.Proposition.{Proposition}
use Rattle.formula_arena.specs.Cores.{IsCore}
use Rattle.formula_arena.specs.Subtrees.{children_of}
use Rattle.formula_arena.specs.Nodes.{IsArena, IsAt, has_form, is_proposition, propositions_in, tree_at}
use Rattle.formula_arena.specs.Shapes.{IsNode}
use Rattle.formula_arena.specs.Table.{AreOver, IsOver, IsTable, tree_of_proposition, tree_over, trees_of}
use Rattle.formula_arena.proofs.FormLemmas.{has_from_at, lacks_from_none}
use Rattle.formula_arena.proofs.TreeLists.{Has, IsAt-new, IsAt-old, orderly-push}
use Rattle.formula_arena.proofs.TableLemmas.{AreOver-more, AreOver-push, IsOver-more, Stands, length-trees_of, stands, tree_over-same, trees_of-prop, trees_of-push}

-- the propositions of the entries, and the trees of the table
abbrev pub props_in : List (Proposition × ℕ) → List Proposition
props_in es = map (λ e. e.0) es

abbrev pub trees_in : List (Proposition × ℕ) → List Core → List Form
trees_in es cs = trees_of (props_in es) cs

-- what IsArena says, of one more tree
pub arena-push : (trees : List Form) (f : Form) → IsArena trees → length trees < MAX_NODES → has_form trees f ≡ false → IsCore f → All (Has trees) (children_of f) → IsArena (trees ++ f ∷ [])
arena-push trees f a room absent is_core children =
    let o = orderly-push trees f absent (record { once = a.once; children_first = a.children_first }) children in
    record {
      few = omega (arith, length_push trees f);
      cores = All-push IsCore trees f a.cores is_core;
      once = o.once;
      children_first = o.children_first;
    }

-- each node of a table stands for its tree
pub stands-table : (es : List (Proposition × ℕ)) (cs : List Core) → IsTable es cs → (k : ℕ) (c : Core) → slice_get cs k ≡ Some c → Stands (length es) (props_in es) (trees_in es cs) k c
stands-table es cs t k c at = stands (length es) (props_in es) cs t.over k c at

-- the proposition of an entry
at_entry : (es : List (Proposition × ℕ)) (p : ℕ) (e : Proposition × ℕ) → slice_get es p ≡ Some e → option_map_or tree_of_proposition (slice_get (props_in es) p) True ≡ tree_of_proposition e.0
at_entry es p e at = ap (λ o. option_map_or tree_of_proposition o True) (slice_get-map (λ x. x.0) es p ∙ ap (option_map (λ x. x.0)) at)

entry_at : (es : List (Proposition × ℕ)) (p : ℕ) → p < length es → (e : Proposition × ℕ) × (slice_get es p ≡ Some e)
entry_at es p within = elim (slice_get_cases es p).1 [
  | inl there ↦ (there.0, there.2)
  | inr past ↦ absurd (let beyond = past.0 in omega arith)
]

pub proposition-at : (es : List (Proposition × ℕ)) (cs : List Core) → IsTable es cs → (p : ℕ) (e : Proposition × ℕ) → slice_get es p ≡ Some e
    → tree_at (propositions_in (trees_in es cs)) p ≡ tree_of_proposition e.0
proposition-at es cs t p e at =
    ap (λ l. tree_at l p) (sym t.props)
    ∙ get_or_from_slice_get (map (λ x. tree_of_proposition x.0) es) p (tree_of_proposition e.0) True
    (slice_get-map (λ x. tree_of_proposition x.0) es p ∙ ap (option_map (λ x. tree_of_proposition x.0)) at)

pub length-propositions : (es : List (Proposition × ℕ)) (cs : List Core) → IsTable es cs → length (propositions_in (trees_in es cs)) ≡ length es
length-propositions es cs t = ap length (sym t.props) ∙ length-map es (λ e. tree_of_proposition e.0)

-- a node says what its tree is
pub node-shape : (es : List (Proposition × ℕ)) (cs : List Core) → IsTable es cs → (k : ℕ) (c : Core) → Stands (length es) (props_in es) (trees_in es cs) k c → IsNode (trees_in es cs) k c
node-shape es cs t k core.True s = s.tree
node-shape es cs t k (core.Prop p) s =
    let e = entry_at es p s.over in
    (subst (λ n. p < n) (sym (length-propositions es cs t)) s.over, s.tree ∙ at_entry es p e.0 e.1 ∙ sym (proposition-at es cs t p e.0 e.1))
node-shape es cs t k (core.Not a) s = (s.over, s.tree)
node-shape es cs t k (core.And a b) s = (s.over.0, s.over.1, s.tree)
node-shape es cs t k (core.Until I a b) s = (s.over.0, s.over.1, s.tree)
node-shape es cs t k (core.Since I a b) s = (s.over.0, s.over.1, s.tree)

-- a node that is no proposition, over nodes below k
module _ (k : ℕ) (ps : List Proposition) (trees : List Form) where
  no_proposition : (c : Core) → IsOver 0 k c → is_proposition (tree_over ps trees c) ≡ false
  no_proposition core.True over = refl
  no_proposition (core.Prop p) over = absurd (omega arith)
  no_proposition (core.Not a) over = refl
  no_proposition (core.And a b) over = refl
  no_proposition (core.Until I a b) over = refl
  no_proposition (core.Since I a b) over = refl

  a_proposition : (p : ℕ) → p < length ps → is_proposition (tree_over ps trees (core.Prop p)) ≡ true
  a_proposition p within = elim (slice_get_cases ps p).1 [
    | inl there ↦ ap (λ o. is_proposition (option_map_or tree_of_proposition o True)) there.2
    | inr past ↦ absurd (let beyond = past.0 in omega arith)
  ]

  module _ (few : k ≤ length trees) (once : (i j : ℕ) → i < length trees → j < length trees → tree_at trees i ≡ tree_at trees j → i ≡ j) where
    same_number : (a b : ℕ) → a < k → b < k → tree_at trees a ≡ tree_at trees b → a ≡ b
    same_number a b in_a in_b e = once a b (omega arith) (omega arith) e

    -- it is told by its tree
    node_told : (c d : Core) → IsOver 0 k c → IsOver (length ps) k d → tree_over ps trees c ≡ tree_over ps trees d → c ≡ d
    node_told c (core.Prop p) over_c over_d e = absurd (true≢false (sym (a_proposition p over_d) ∙ ap is_proposition (sym e) ∙ no_proposition c over_c))
    node_told (core.Prop p) d over_c over_d e = absurd (omega arith)
    node_told core.True core.True over_c over_d e = refl
    node_told (core.Not a) (core.Not b) over_c over_d e = let h : tree_at trees a ≡ tree_at trees b = cc in ap core.Not (same_number a b over_c over_d h)
    node_told (core.And a b) (core.And c d) over_c over_d e =
        let h : tree_at trees a ≡ tree_at trees c = cc in
        let g : tree_at trees b ≡ tree_at trees d = cc in
        let p : a ≡ c = same_number a c over_c.0 over_d.0 h in
        let q : b ≡ d = same_number b d over_c.1 over_d.1 g in
        λ i. core.And (p i) (q i)
    node_told (core.Until I a b) (core.Until J c d) over_c over_d e =
        let r : I ≡ J = cc in
        let h : tree_at trees a ≡ tree_at trees c = cc in
        let g : tree_at trees b ≡ tree_at trees d = cc in
        let p : a ≡ c = same_number a c over_c.0 over_d.0 h in
        let q : b ≡ d = same_number b d over_c.1 over_d.1 g in
        λ i. core.Until (r i) (p i) (q i)
    node_told (core.Since I a b) (core.Since J c d) over_c over_d e =
        let r : I ≡ J = cc in
        let h : tree_at trees a ≡ tree_at trees c = cc in
        let g : tree_at trees b ≡ tree_at trees d = cc in
        let p : a ≡ c = same_number a c over_c.0 over_d.0 h in
        let q : b ≡ d = same_number b d over_c.1 over_d.1 g in
        λ i. core.Since (r i) (p i) (q i)
    node_told c d over_c over_d e = absurd (cc)

contains_from_get : {X : Type 0} (xs : List X) (k : ℕ) (x : X) → slice_get xs k ≡ Some x → Contains xs x
contains_from_get xs k x at = (k, slice_get_within xs k x at, get_or_from_slice_get xs k x x at)

-- the tree of a node does not read the propositions where it is none
pub plain-tree : (ps : List Proposition) (trees : List Form) (k : ℕ) (c : Core) → IsOver 0 k c → tree_over ps trees c ≡ tree_over [] trees c
plain-tree ps trees k c over = tree_over-same 0 k ps [] trees trees c over (λ j less. refl) (λ p less. absurd (omega arith))

node_at : (cs : List Core) (k : ℕ) → k < length cs → (c : Core) × (slice_get cs k ≡ Some c)
node_at cs k within = elim (slice_get_cases cs k).1 [
  | inl there ↦ (there.0, there.2)
  | inr past ↦ absurd (let beyond = past.0 in omega arith)
]

-- the tree of a node that is not there is not there
pub node-absent : (es : List (Proposition × ℕ)) (cs : List Core) → IsTable es cs → (c : Core) → IsOver 0 (length (trees_in es cs)) c → (Contains cs c → ⊥)
    → has_form (trees_in es cs) (tree_over [] (trees_in es cs) c) ≡ false
node-absent es cs t c over absent = lacks_from_none (trees_in es cs) (tree_over [] (trees_in es cs) c) (λ k at.
    let within = at.0 in
    let there = node_at cs k (omega (arith, length-trees_of (props_in es) cs)) in
    let s = stands-table es cs t k there.0 there.1 in
    let reaches : k ≤ length (trees_in es cs) = omega arith in
    let enough : length es ≤ length (props_in es) = omega (arith, length-map es (λ e. e.0)) in
    let same = node_told (length (trees_in es cs)) (props_in es) (trees_in es cs) (omega arith) t.arena.once c there.0 over
    (IsOver-more (length es) (length (props_in es)) k (length (trees_in es cs)) there.0 enough reaches s.over)
    (plain-tree (props_in es) (trees_in es cs) (length (trees_in es cs)) c over ∙ sym at.1 ∙ s.tree) in
    absent (contains_from_get cs k c (there.1 ∙ ap Some (sym same))))

-- what is read at a node's place says what the tree is
pub node-read : (es : List (Proposition × ℕ)) (cs : List Core) (trees : List Form) → IsTable es cs → trees_in es cs ≡ trees → (k : ℕ) (c : Core)
    → k < length trees → c ≡ slice_index_or cs k c → IsNode trees k c
node-read es cs trees t e k c within is =
    let here : k < length cs = omega (arith, length-trees_of (props_in es) cs, ap length e) in
    subst (λ l. IsNode l k c) e (node-shape es cs t k c (stands-table es cs t k c (slice_get_read cs (length cs) k c refl here is)))

-- a node that is there has its tree, and adds none
pub node-known : (es : List (Proposition × ℕ)) (cs : List Core) → IsTable es cs → (c : Core) → IsOver 0 (length (trees_in es cs)) c → (k : ℕ)
    → slice_get cs k ≡ Some c → IsAt (trees_in es cs) k (tree_over [] (trees_in es cs) c)
node-known es cs t c over k at =
    let within = slice_get_within cs k c at in
    (omega (arith, length-trees_of (props_in es) cs), (stands-table es cs t k c at).tree ∙ plain-tree (props_in es) (trees_in es cs) (length (trees_in es cs)) c over)

-- with a new node the table has one more tree
pub trees-push : (es : List (Proposition × ℕ)) (cs : List Core) (c : Core) → IsOver 0 (length (trees_in es cs)) c → trees_in es (cs ++ c ∷ []) ≡ trees_in es cs ++ tree_over [] (trees_in es cs) c ∷ []
trees-push es cs c over = trees_of-push (props_in es) cs c ∙ ap (λ f. trees_in es cs ++ f ∷ []) (plain-tree (props_in es) (trees_in es cs) (length (trees_in es cs)) c over)

module _ (trees : List Form) (k : ℕ) (few : k ≤ length trees) where
  has_below : (a : ℕ) → a < k → Has trees (tree_at trees a)
  has_below a less = record { number = a; at = (omega arith, refl) }

  has_one : (a : ℕ) → a < k → All (Has trees) (tree_at trees a ∷ [])
  has_one a less = All-cons (Has trees) (tree_at trees a) [] (has_below a less) (All-nil (Has trees))

  has_two : (a b : ℕ) → a < k → b < k → All (Has trees) (tree_at trees a ∷ tree_at trees b ∷ [])
  has_two a b less_a less_b = All-cons (Has trees) (tree_at trees a) (tree_at trees b ∷ []) (has_below a less_a) (has_one b less_b)

  children_there : (c : Core) → IsOver 0 k c → All (Has trees) (children_of (tree_over [] trees c))
  children_there core.True over = All-nil (Has trees)
  children_there (core.Prop p) over = absurd (omega arith)
  children_there (core.Not a) over = has_one a over
  children_there (core.And a b) over = has_two a b over.0 over.1
  children_there (core.Until I a b) over = has_two a b over.0 over.1
  children_there (core.Since I a b) over = has_two a b over.0 over.1

  module _ (cores : All IsCore trees) where
    core_below : (a : ℕ) → a < k → IsCore (tree_at trees a)
    core_below a less = cores a True (omega arith)

    core_there : (c : Core) → IsOver 0 k c → IsCore (tree_over [] trees c)
    core_there core.True over = refl
    core_there (core.Prop p) over = absurd (omega arith)
    core_there (core.Not a) over = ap Not (core_below a over)
    core_there (core.And a b) over = λ i. And (core_below a over.0 i) (core_below b over.1 i)
    core_there (core.Until I a b) over = λ i. Until I (core_below a over.0 i) (core_below b over.1 i)
    core_there (core.Since I a b) over = λ i. Since I (core_below a over.0 i) (core_below b over.1 i)

propositions-push : (trees : List Form) (f : Form) (b : Bool) → is_proposition f ≡ b → propositions_in (trees ++ f ∷ []) ≡ propositions_in trees ++ cond b (f ∷ []) []
propositions-push trees f b e = filter-append is_proposition trees (f ∷ []) ∙ ap (λ c. propositions_in trees ++ cond c (f ∷ []) []) e

pub table-push : (es : List (Proposition × ℕ)) (cs : List Core) → IsTable es cs → (c : Core) → IsOver 0 (length (trees_in es cs)) c → (Contains cs c → ⊥)
    → length (trees_in es cs) < MAX_NODES → IsTable es (cs ++ c ∷ [])
table-push es cs t c over absent room =
    let T : List Form = trees_in es cs in
    let f : Form = tree_over [] T c in
    let n : length T ≡ length cs = length-trees_of (props_in es) cs in
    let more : trees_in es (cs ++ c ∷ []) ≡ T ++ f ∷ [] = trees-push es cs c over in
    let lacks : has_form T f ≡ false = node-absent es cs t c over absent in
    let plain : is_proposition f ≡ false = no_proposition (length T) [] T c over in
    record {
      over = AreOver-push (length es) 0 cs c t.over (IsOver-more 0 (length es) (length T) (0 + length cs) c (omega arith) (omega arith) over);
      arena = subst IsArena (sym more) (arena-push T f t.arena room lacks (core_there T (length T) (omega arith) t.arena.cores c over) (children_there T (length T) (omega arith) c over));
      props = t.props ∙ sym (append-nil (propositions_in T)) ∙ sym (propositions-push T f false plain) ∙ ap propositions_in (sym more);
      nodes =
          subst (λ l. All (λ e. IsAt l e.1 (tree_of_proposition e.0)) es) (sym more)
          (All-weaker (λ e. IsAt T e.1 (tree_of_proposition e.0)) (λ e. IsAt (T ++ f ∷ []) e.1 (tree_of_proposition e.0)) (λ e at. IsAt-old T (f ∷ []) e.1 (tree_of_proposition e.0) at) es t.nodes);
    }

-- with a new proposition and its node the table has one more tree
pub trees-push_prop : (es : List (Proposition × ℕ)) (cs : List Core) (q : Proposition) (k : ℕ) → IsTable es cs
    → trees_in (es ++ (q, k) ∷ []) (cs ++ core.Prop (length es) ∷ []) ≡ trees_in es cs ++ tree_of_proposition q ∷ []
trees-push_prop es cs q k t =
    let n : length (props_in es) ≡ length es = length-map es (λ e. e.0) in
    let ps : props_in (es ++ (q, k) ∷ []) ≡ props_in es ++ q ∷ [] = map-append (λ e. e.0) es ((q, k) ∷ []) in
    ap (λ l. trees_of l (cs ++ core.Prop (length es) ∷ [])) ps
    ∙ ap (λ m. trees_of (props_in es ++ q ∷ []) (cs ++ core.Prop m ∷ [])) (sym n)
    ∙ trees_of-prop (props_in es) q cs (subst (λ m. AreOver m 0 cs) (sym n) t.over)

pub table-push_prop : (es : List (Proposition × ℕ)) (cs : List Core) → IsTable es cs → (q : Proposition) (k : ℕ) → k ≡ length cs
    → has_form (trees_in es cs) (tree_of_proposition q) ≡ false → length (trees_in es cs) < MAX_NODES
    → IsTable (es ++ (q, k) ∷ []) (cs ++ core.Prop (length es) ∷ [])
table-push_prop es cs t q k last lacks room =
    let T : List Form = trees_in es cs in
    let f : Form = tree_of_proposition q in
    let es' : List (Proposition × ℕ) = es ++ (q, k) ∷ [] in
    let cs' : List Core = cs ++ core.Prop (length es) ∷ [] in
    let n : length T ≡ length cs = length-trees_of (props_in es) cs in
    let m : length es' ≡ length es + 1 = length-append es ((q, k) ∷ []) in
    let more : trees_in es' cs' ≡ T ++ f ∷ [] = trees-push_prop es cs q k t in
    let is_at : ℕ → Form → Type 0 = IsAt (T ++ f ∷ []) in
    record {
      over = AreOver-push (length es') 0 cs (core.Prop (length es)) (AreOver-more (length es) (length es') 0 cs (omega arith) t.over) (omega arith);
      arena = subst IsArena (sym more) (arena-push T f t.arena room lacks refl (All-nil (Has T)));
      props = map-append (λ e. tree_of_proposition e.0) es ((q, k) ∷ []) ∙ ap (λ l. l ++ f ∷ []) t.props ∙ sym (propositions-push T f true refl) ∙ ap propositions_in (sym more);
      nodes = subst (λ l. All (λ e. IsAt l e.1 (tree_of_proposition e.0)) es') (sym more)
          (All-push (λ e. IsAt (T ++ f ∷ []) e.1 (tree_of_proposition e.0)) es (q, k)
          (All-weaker (λ e. IsAt T e.1 (tree_of_proposition e.0)) (λ e. IsAt (T ++ f ∷ []) e.1 (tree_of_proposition e.0)) (λ e at. IsAt-old T (f ∷ []) e.1 (tree_of_proposition e.0) at) es t.nodes)
          (subst (λ j. IsAt (T ++ f ∷ []) j f) (n ∙ sym last) (IsAt-new T f)));
    }

-- a proposition with an entry has its tree
pub entry-there : (es : List (Proposition × ℕ)) (cs : List Core) → IsTable es cs → (q : Proposition) (k : ℕ) → Contains es (q, k) → IsAt (trees_in es cs) k (tree_of_proposition q)
entry-there es cs t q k there = All-contains (λ e. IsAt (trees_in es cs) e.1 (tree_of_proposition e.0)) es (q, k) t.nodes there

-- a proposition whose tree is not there has no entry
pub entry-absent : (es : List (Proposition × ℕ)) (cs : List Core) → IsTable es cs → (q : Proposition) → has_form (trees_in es cs) (tree_of_proposition q) ≡ false → Contains (props_in es) q → ⊥
entry-absent es cs t q lacks there =
    let T : List Form = trees_in es cs in
    let P : Proposition → Type 0 = λ p. has_form T (tree_of_proposition p) ≡ true in
    let each : All (λ e. P e.0) es = All-weaker (λ e. IsAt T e.1 (tree_of_proposition e.0)) (λ e. P e.0) (λ e at. has_from_at T (tree_of_proposition e.0) e.1 at) es t.nodes in
    true≢false (sym (All-contains P (props_in es) q (All-map P (λ e. e.0) es each) there) ∙ lacks)

-- and one without an entry has no tree
entry-told : (es : List (Proposition × ℕ)) (trees : List Form) (k : ℕ) (q : Proposition) (c : Core) → IsOver (length es) k c
    → tree_over (props_in es) trees c ≡ tree_of_proposition q → Contains (props_in es) q
entry-told es trees k q (core.Prop p) over e =
    let x = entry_at es p over in
    let same : tree_of_proposition x.0.0 ≡ tree_of_proposition q = sym (at_entry es p x.0 x.1) ∙ e in
    let host : x.0.0.host ≡ q.host = cc in
    let name : x.0.0.name ≡ q.name = cc in
    let told : x.0.0 ≡ q = λ i. record { host = host i; name = name i } in
    contains_from_get (props_in es) p q (slice_get-map (λ y. y.0) es p ∙ ap (option_map (λ y. y.0)) x.1 ∙ ap Some told)
entry-told es trees k q c over e = absurd (cc)

pub entry-lacks : (es : List (Proposition × ℕ)) (cs : List Core) → IsTable es cs → (q : Proposition) → (Contains (props_in es) q → ⊥) → has_form (trees_in es cs) (tree_of_proposition q) ≡ false
entry-lacks es cs t q absent = lacks_from_none (trees_in es cs) (tree_of_proposition q) (λ k at.
    let within = at.0 in
    let there = node_at cs k (omega (arith, length-trees_of (props_in es) cs)) in
    let s = stands-table es cs t k there.0 there.1 in
    absent (entry-told es (trees_in es cs) k q there.0 s.over (sym s.tree ∙ at.1)))

-- a table of nothing
pub table-nil : IsTable [] []
unfolding trees_of
table-nil = record {
  over = tt;
  arena = record { few = omega arith; cores = All-nil IsCore; once = λ j k in_j in_k e. absurd (omega arith); children_first = λ k in_k. absurd (omega arith) };
  props = refl;
  nodes = All-nil _;
}

pub trees-nil : trees_of [] [] ≡ []
unfolding trees_of
trees-nil = refl

length-filter_by : (f : Form) (fs : List Form) (b : Bool) → length (propositions_in fs) ≤ length fs → length (cond b (f ∷ propositions_in fs) (propositions_in fs)) ≤ length (f ∷ fs)
length-filter_by f fs true rest = omega arith
length-filter_by f fs false rest = omega arith

length-filter_le : (fs : List Form) → length (propositions_in fs) ≤ length fs
length-filter_le [] = omega arith
length-filter_le (f ∷ fs) = length-filter_by f fs (is_proposition f) (length-filter_le fs)

-- there are no more propositions than nodes
pub few-entries : (es : List (Proposition × ℕ)) (cs : List Core) → IsTable es cs → length es ≤ length cs
few-entries es cs t = omega (arith, length-propositions es cs t, length-filter_le (trees_in es cs), length-trees_of (props_in es) cs)

pub few-nodes : (es : List (Proposition × ℕ)) (cs : List Core) → IsTable es cs → length cs ≤ MAX_NODES
few-nodes es cs t = omega (arith, length-trees_of (props_in es) cs, t.arena.few)

-- no node names a proposition that is not there
pub proposition-new : (es : List (Proposition × ℕ)) (cs : List Core) → IsTable es cs → (held : List Core) → held ≡ cs → (p : ℕ) → p ≡ length es → Contains held (core.Prop p) → ⊥
proposition-new es cs t held same p last there =
    let k = there.0 in
    let here : Contains cs (core.Prop p) = subst (λ l. Contains l (core.Prop p)) same there in
    let s = stands-table es cs t here.0 (core.Prop p) (slice_get_read cs (length cs) here.0 (core.Prop p) refl here.1 (sym here.2)) in
    absurd (let less : p < length es = s.over in omega arith)
