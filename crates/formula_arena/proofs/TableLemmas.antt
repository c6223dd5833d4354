-- The trees of a table of nodes and propositions.
use Rattle.std.proofs.Common.{◌≡◌, ◌∙◌, ℕ, zero, suc, ◌≤◌, ◌<◌, ◌+◌, refl, sym, ap, subst, List, [], ◌∷◌, ◌++◌, length, slice_get, Some, arith}
use Rattle.std.specs.Option.{option_map_or}
use Rattle.std.proofs.lemmas.Option.{same_Some}
use Rattle.mt_model.specs.Form.{Form, True, Not, And, Until, Since}
use Rattle.formula_arena.specs.declared.node.Core.{Core}
use Rattle.formula_arena.specs.declared.node.Core.TheVariants as core
use Rattle.formula_arena.specs.declared.node.Proposition.{Proposition}
use Rattle.formula_arena.specs.Nodes.{tree_at}
use Rattle.formula_arena.specs.Table.{AreOver, IsOver, tree_of_proposition, tree_over, trees_after, trees_of}
use Rattle.formula_arena.proofs.TreeLists.{at-new, at-old}
use Rattle.std.proofs.lemmas.List.{length_push}
use Rattle.mt_list.proofs.Lists.{got_last}

-- a node that names nodes below k has the same tree over two lists of trees that agree below k, and two
-- lists of propositions that agree on those there are
pub tree_over-same : (n k : ℕ) (ps qs : List Proposition) (ts us : List Form) (c : Core) → IsOver n k c → ((j : ℕ) → j < k → tree_at ts j ≡ tree_at us j)
    → ((p : ℕ) → p < n → slice_get ps p ≡ slice_get qs p)
    → tree_over ps ts c ≡ tree_over qs us c
tree_over-same n k ps qs ts us core.True over same props = refl
tree_over-same n k ps qs ts us (core.Prop p) over same props = ap (λ o. option_map_or tree_of_proposition o True) (props p over)
tree_over-same n k ps qs ts us (core.Not a) over same props = ap Not (same a over)
tree_over-same n k ps qs ts us (core.And a b) over same props = λ i. And (same a over.0 i) (same b over.1 i)
tree_over-same n k ps qs ts us (core.Until I a b) over same props = λ i. Until I (same a over.0 i) (same b over.1 i)
tree_over-same n k ps qs ts us (core.Since I a b) over same props = λ i. Since I (same a over.0 i) (same b over.1 i)

pub IsOver-more : (n m k l : ℕ) (c : Core) → n ≤ m → k ≤ l → IsOver n k c → IsOver m l c
IsOver-more n m k l core.True p q over = tt
IsOver-more n m k l (core.Prop a) p q over = omega arith
IsOver-more n m k l (core.Not a) p q over = omega arith
IsOver-more n m k l (core.And a b) p q over = (let l = over.0 in omega arith, let r = over.1 in omega arith)
IsOver-more n m k l (core.Until I a b) p q over = (let l = over.0 in omega arith, let r = over.1 in omega arith)
IsOver-more n m k l (core.Since I a b) p q over = (let l = over.0 in omega arith, let r = over.1 in omega arith)

pub AreOver-more : (n m k : ℕ) (cs : List Core) → n ≤ m → AreOver n k cs → AreOver m k cs
AreOver-more n m k [] p over = tt
AreOver-more n m k (c ∷ cs) p over = (IsOver-more n m k k c p (omega arith) over.0, AreOver-more n m (k + 1) cs p over.1)

pub AreOver-push : (n k : ℕ) (cs : List Core) (c : Core) → AreOver n k cs → IsOver n (k + length cs) c → AreOver n k (cs ++ c ∷ [])
AreOver-push n k [] c over last = (IsOver-more n n (k + 0) k c (omega arith) (omega arith) last, tt)
AreOver-push n k (d ∷ cs) c over last = (over.0, AreOver-push n (k + 1) cs c over.1 (IsOver-more n n (k + length (d ∷ cs)) (k + 1 + length cs) c (omega arith) (omega arith) last))

trees_after-push : (ps : List Proposition) (ts : List Form) (cs : List Core) (c : Core) → trees_after ps ts (cs ++ c ∷ []) ≡ trees_after ps ts cs ++ tree_over ps (trees_after ps ts cs) c ∷ []
trees_after-push ps ts [] c = refl
trees_after-push ps ts (d ∷ cs) c = trees_after-push ps (ts ++ tree_over ps ts d ∷ []) cs c

-- a node more is a tree more
pub trees_of-push : (ps : List Proposition) (cs : List Core) (c : Core) → trees_of ps (cs ++ c ∷ []) ≡ trees_of ps cs ++ tree_over ps (trees_of ps cs) c ∷ []
unfolding trees_of
trees_of-push ps cs c = trees_after-push ps [] cs c

length-trees_after : (ps : List Proposition) (ts : List Form) (cs : List Core) → length (trees_after ps ts cs) ≡ length ts + length cs
length-trees_after ps ts [] = omega arith
length-trees_after ps ts (c ∷ cs) = omega (arith, length-trees_after ps (ts ++ tree_over ps ts c ∷ []) cs, length_push ts (tree_over ps ts c))

-- there is a tree for each node
pub length-trees_of : (ps : List Proposition) (cs : List Core) → length (trees_of ps cs) ≡ length cs
unfolding trees_of
length-trees_of ps cs = omega (arith, length-trees_after ps [] cs)

at-trees_after : (ps : List Proposition) (ts : List Form) (cs : List Core) (k : ℕ) → k < length ts → tree_at (trees_after ps ts cs) k ≡ tree_at ts k
at-trees_after ps ts [] k within = refl
at-trees_after ps ts (c ∷ cs) k within =
    at-trees_after ps (ts ++ tree_over ps ts c ∷ []) cs k (omega (arith, length_push ts (tree_over ps ts c))) ∙ at-old ts (tree_over ps ts c ∷ []) k within

-- node k is over the nodes before it, and its tree is that over all trees
pub record Stands (n : ℕ) (ps : List Proposition) (trees : List Form) (k : ℕ) (c : Core) : Type 0 where
  pub over : IsOver n k c
  pub tree : tree_at trees k ≡ tree_over ps trees c

stands_first : (n : ℕ) (ps : List Proposition) (ts : List Form) (cs : List Core) (d : Core) → IsOver n (length ts) d → Stands n ps (trees_after ps (ts ++ tree_over ps ts d ∷ []) cs) (length ts) d
stands_first n ps ts cs d over =
    let g : Form = tree_over ps ts d in
    let more : length (ts ++ g ∷ []) ≡ length ts + 1 = length_push ts g in
    let here = at-trees_after ps (ts ++ g ∷ []) cs (length ts) (omega arith) ∙ at-new ts g in
    record {
      over = over;
      tree =
          here
          ∙ tree_over-same n (length ts) ps ps ts (trees_after ps (ts ++ g ∷ []) cs) d over
          (λ j less. sym (at-trees_after ps (ts ++ g ∷ []) cs j (omega arith) ∙ at-old ts (g ∷ []) j less)) (λ p less. refl);
    }

stands-after : (n : ℕ) (ps : List Proposition) (ts : List Form) (cs : List Core) → AreOver n (length ts) cs → (k : ℕ) (c : Core) → slice_get cs k ≡ Some c
    → Stands n ps (trees_after ps ts cs) (length ts + k) c
stands-after n ps ts [] over k c at = absurd (cc)
stands-after n ps ts (d ∷ cs) over zero c at =
    let moved : length ts ≡ length ts + 0 = omega arith in
    let T : List Form = trees_after ps (ts ++ tree_over ps ts d ∷ []) cs in
    subst (λ e. Stands n ps T (length ts + 0) e) (same_Some d c at) (subst (λ m. Stands n ps T m d) moved (stands_first n ps ts cs d over.0))
stands-after n ps ts (d ∷ cs) over (suc k) c at =
    let ts' : List Form = ts ++ tree_over ps ts d ∷ [] in
    let longer : length ts' ≡ length ts + 1 = length_push ts (tree_over ps ts d) in
    let next = stands-after n ps ts' cs (subst (λ m. AreOver n m cs) (sym longer) over.1) k c at in
    let moved : length ts' + k ≡ length ts + suc k = omega arith in
    subst (λ m. Stands n ps (trees_after ps ts' cs) m c) moved next

pub stands : (n : ℕ) (ps : List Proposition) (cs : List Core) → AreOver n 0 cs → (k : ℕ) (c : Core) → slice_get cs k ≡ Some c → Stands n ps (trees_of ps cs) k c
unfolding trees_of
stands n ps cs over k c at =
    let moved : 0 + k ≡ k = omega arith in
    subst (λ m. Stands n ps (trees_after ps [] cs) m c) moved (stands-after n ps [] cs over k c at)

-- the trees stay where propositions are added that no node names
trees_after-props : (n : ℕ) (ps qs : List Proposition) (ts : List Form) (cs : List Core) → AreOver n (length ts) cs
    → ((p : ℕ) → p < n → slice_get ps p ≡ slice_get qs p) → trees_after ps ts cs ≡ trees_after qs ts cs
trees_after-props n ps qs ts [] over same = refl
trees_after-props n ps qs ts (c ∷ cs) over same =
    let e = tree_over-same n (length ts) ps qs ts ts c over.0 (λ j less. refl) same in
    trees_after-props n ps qs (ts ++ tree_over ps ts c ∷ []) cs (subst (λ m. AreOver n m cs) (sym (length_push ts (tree_over ps ts c))) over.1) same
    ∙ ap (λ g. trees_after qs (ts ++ g ∷ []) cs) e

get-old : {X : Type 0} (xs ys : List X) (k : ℕ) → k < length xs → slice_get xs k ≡ slice_get (xs ++ ys) k
get-old [] ys k within = absurd (omega arith)
get-old (x ∷ xs) ys zero within = refl
get-old (x ∷ xs) ys (suc k) within = get-old xs ys k (omega arith)

pub trees_of-props : (ps qs : List Proposition) (cs : List Core) → AreOver (length ps) 0 cs → trees_of (ps ++ qs) cs ≡ trees_of ps cs
unfolding trees_of
trees_of-props ps qs cs over = sym (trees_after-props (length ps) ps (ps ++ qs) [] cs over (λ p within. get-old ps qs p within))

-- the trees with a new proposition and its node
pub trees_of-prop : (ps : List Proposition) (q : Proposition) (cs : List Core) → AreOver (length ps) 0 cs
    → trees_of (ps ++ q ∷ []) (cs ++ core.Prop (length ps) ∷ []) ≡ trees_of ps cs ++ tree_of_proposition q ∷ []
trees_of-prop ps q cs over =
    trees_of-push (ps ++ q ∷ []) cs (core.Prop (length ps))
    ∙ (λ i. trees_of-props ps (q ∷ []) cs over i ++ option_map_or tree_of_proposition (got_last ps q i) True ∷ [])
