-- Edges that lead on to an end, and the walk over them.
use Rattle.std.proofs.Common.{◌≡◌, ◌≢◌, ◌∙◌, ap, sym, subst, refl, ℕ, ◌+◌, ◌<◌, ◌≤◌, inl, inr, List, [], ◌∷◌, ◌++◌, length, map, take, arith, true, eqb, get_or, pos}
use Rattle.std.specs.Prelude.{All, AllPairs, Any, Contains, slice_index}
use Rattle.std.specs.List.{list_any}
use Rattle.std.proofs.lemmas.Bool.{cases_eq}
use Rattle.std.proofs.lemmas.Bool.Decides.{nat_tests, Decides-eqb}
use Rattle.std.proofs.lemmas.List.{get_or_default, get_or_append_left, take_more, take_all, take-append-le, length_push, length-map, length-take-le, get_or-map, get_or-take}
use Rattle.std.proofs.lemmas.List.Elements.{All-push, Contains-get_or}
use Rattle.std.proofs.lemmas.List.Folds.{Any-from_list_any}
use Rattle.std.proofs.lemmas.List.Quantifiers.{Any-push, all_pairs_push}
use Rattle.std.proofs.lemmas.Map.Steps.{length-le_from_distinct_below}
use Rattle.std.proofs.lemmas.Map.Made.{IsDistinct-from_AllPairs}
use Rattle.std.proofs.Math.Seq.{get_or-append_seam}
use Rattle.neg_cycle.specs.declared.system.Edge.{Edge}
use Rattle.neg_cycle.specs.Systems.{IsEdge, VisitsOnce, edge_at, LeadsTo}
use Rattle.difference_graph.specs.Repairs.{Begins, BeginsNone, LeadsOn, IsTree, IsTrace}

-- one of the elements, or the last one
any_left : {X : Type 0} (P : X → Type 0) (xs : List X) (y : X) → Any P xs → Any P (xs ++ y ∷ [])
any_left P xs y (k, x, within, is, holds) = (k, x, omega (arith, length_push xs y, within), get_or_append_left xs (y ∷ []) x k within ∙ is, holds)

pub any_last : {X : Type 0} (P : X → Type 0) (xs : List X) (y : X) → Any P (xs ++ y ∷ []) → (P y → ⊥) → Any P xs
any_last P xs y (k, x, within, is, holds) not = elim (cases_eq k (length xs)) [
  | inl e ↦
      let last : y ≡ x = sym (get_or-append_seam xs y [] x) ∙ subst (λ (i : ℕ). get_or (xs ++ y ∷ []) i x ≡ x) e is in
      absurd (not (subst P (sym last) holds))
  | inr other ↦
      let before : k < length xs = omega (arith, length_push xs y, within, other) in
      (k, x, before, sym (get_or_append_left xs (y ∷ []) x k before) ∙ is, holds)
]

any_none : {X : Type 0} (P : X → Type 0) → Any P [] → ⊥
any_none P (k, x, within, is, holds) = absurd (omega (arith, within))

module _ (edges : List Edge) where
  pub begins_last : (places : List ℕ) (p : ℕ) → Begins edges (places ++ p ∷ []) (edge_at edges p).from
  begins_last places p = Any-push (λ q. (edge_at edges q).from ≡ (edge_at edges p).from) places p refl

  pub begins_still : (places : List ℕ) (p node : ℕ) → Begins edges places node → Begins edges (places ++ p ∷ []) node
  begins_still places p node b = any_left (λ q. (edge_at edges q).from ≡ node) places p b

  -- no two edges begin at one node, also with one more that begins at another
  pub once_push : (places : List ℕ) (p : ℕ) → VisitsOnce edges places → BeginsNone edges places (edge_at edges p).from → VisitsOnce edges (places ++ p ∷ [])
  once_push places p once none = all_pairs_push (λ q r. (edge_at edges q).from ≢ (edge_at edges r).from) places p once none

  module _ (end : ℕ) (places : List ℕ) (tree : IsTree edges end places) (p : ℕ) (below : p < length edges) (new : BeginsNone edges places (edge_at edges p).from) (apart : (edge_at edges p).from ≢ end)
      (leads : LeadsOn edges end places (edge_at edges p).to) where
    leads_old : (j : ℕ) → j < length places → LeadsOn edges end (take j (places ++ p ∷ [])) (edge_at edges (slice_index (places ++ p ∷ []) j)).to
    leads_old j within =
        let before = take-append-le j places (p ∷ []) (omega (arith, within)) in
        let at = get_or_append_left places (p ∷ []) 0 j within in
        rw (before, at) (tree.leads j within)

    leads_new : LeadsOn edges end (take (length places) (places ++ p ∷ [])) (edge_at edges (slice_index (places ++ p ∷ []) (length places))).to
    leads_new =
        let before : take (length places) (places ++ p ∷ []) ≡ places = take-append-le (length places) places (p ∷ []) (omega arith) ∙ take_all (length places) places (omega arith) in
        let at = get_or-append_seam places p [] 0 in
        rw (before, at) leads

    pub tree_push : IsTree edges end (places ++ p ∷ [])
    tree_push = record {
      within = All-push (λ q. q < length edges) places p tree.within below;
      once = once_push places p tree.once new;
      apart = All-push (λ q. (edge_at edges q).from ≢ end) places p tree.apart apart;
      leads = λ j within. elim (cases_eq j (length places)) [
        | inl e ↦ subst (λ (i : ℕ). LeadsOn edges end (take i (places ++ p ∷ [])) (edge_at edges (slice_index (places ++ p ∷ []) i)).to) (sym e) leads_new
        | inr other ↦ leads_old j (omega (arith, length_push places p, within, other))
      ];
    }

  pub tree_nil : (end : ℕ) → IsTree edges end []
  tree_nil end = record {
    within = λ k d within. absurd (omega (arith, within));
    once = λ i j d before within. absurd (omega (arith, within));
    apart = λ k d within. absurd (omega (arith, within));
    leads = λ j within. absurd (omega (arith, within));
  }

  -- at most as many edges as there are nodes begin at different nodes
  module _ (nodes : ℕ) (each : All (IsEdge nodes) edges) where
    pairs_map : (places : List ℕ) → VisitsOnce edges places → AllPairs (λ x y. x ≢ y) (map (λ p. (edge_at edges p).from) places)
    pairs_map places once i j d before within =
        let inside : j < length places = rw length-map at within in
        let first = get_or-map (λ p. (edge_at edges p).from) places i 0 d (omega (arith, before, inside)) in
        let second = get_or-map (λ p. (edge_at edges p).from) places j 0 d inside in
        let apart_ = once i j 0 before inside in
        λ same. apart_ (sym first ∙ same ∙ second)

    froms_below : (places : List ℕ) → All (λ p. p < length edges) places → (q : ℕ) → list_any (eqb q) (map (λ p. (edge_at edges p).from) places) ≡ true → q < nodes
    froms_below places within q found =
        let (k, x, inside, is, same) = Any-from_list_any (eqb q) (map (λ p. (edge_at edges p).from) places) found in
        let in_places : k < length places = rw length-map at inside in
        let at = get_or-map (λ p. (edge_at edges p).from) places k 0 x in_places in
        let low = (each (get_or places k 0) (record { from = 0; to = 0; bound = pos 0 }) (within k 0 in_places)).from in
        let node : x ≡ (edge_at edges (get_or places k 0)).from = sym is ∙ at in
        let below : x < nodes = rw node low in
        grind (arith, nat_tests)

    pub tree_short : (end : ℕ) (places : List ℕ) → IsTree edges end places → length places ≤ nodes
    tree_short end places tree =
        let few =
        length-le_from_distinct_below (map (λ p. (edge_at edges p).from) places) nodes
        (IsDistinct-from_AllPairs Decides-eqb (map (λ p. (edge_at edges p).from) places) (pairs_map places tree.once))
        (froms_below places tree.within) in
        let many : length (map (λ p. (edge_at edges p).from) places) ≡ length places = simp length-map in
        omega (arith, few, many)

-- a walk over the edge at a place and edges of a tree, which is at a node, where only the first edges of the tree are left
pub record IsTracing (edges : List Edge) (order : List ℕ) (place left node : ℕ) (walk : List ℕ) : Type 0 where
  pub rest : List ℕ
  pub is : walk ≡ place ∷ rest
  pub within : left ≤ length order
  pub leads : LeadsTo edges (edge_at edges place).to rest node
  pub on : LeadsOn edges (edge_at edges place).from (take left order) node
  pub once : VisitsOnce edges walk
  pub behind : All (λ r. BeginsNone edges (take left order) (edge_at edges r).from) walk
  pub among : All (Contains order) rest
  pub short : length walk + left ≤ length order + 1

walk_push : (edges : List Edge) (a b : ℕ) (ps : List ℕ) (p : ℕ) → LeadsTo edges a ps b → p < length edges → (edge_at edges p).from ≡ b → LeadsTo edges a (ps ++ p ∷ []) (edge_at edges p).to
walk_push edges a b [] p leads below from = (below, from ∙ sym leads, refl)
walk_push edges a b (q ∷ qs) p leads below from = (leads.0, leads.1, walk_push edges (edge_at edges q).to b qs p leads.2 below from)

module _ (edges : List Edge) (order : List ℕ) (place : ℕ) (below : place < length edges) (tree : IsTree edges (edge_at edges place).from order) where
  all_behind : BeginsNone edges (take (length order) order) (edge_at edges place).from
  all_behind = rw (take_all (length order) order (omega arith)) tree.apart

  pub tracing_start : LeadsOn edges (edge_at edges place).from order (edge_at edges place).to → IsTracing edges order place (length order) (edge_at edges place).to (place ∷ [])
  tracing_start on = record {
    rest = [];
    is = refl;
    within = omega arith;
    leads = refl;
    on = rw (take_all (length order) order (omega arith)) on;
    once = λ i j d before within. absurd (omega (arith, before, within));
    behind = All-push (λ r. BeginsNone edges (take (length order) order) (edge_at edges r).from) [] place (λ k d within. absurd (omega (arith, within))) all_behind;
    among = λ k d within. absurd (omega (arith, within));
    short = omega arith;
  }

  -- the next edge of the tree
  module _ (left more node : ℕ) (walk : List ℕ) (t : IsTracing edges order place more node walk) (is_more : more ≡ left + 1) where
    inside : left < length order
    inside = omega (arith, t.within, is_more)

    taken : take more order ≡ take left order ++ get_or order left 0 ∷ []
    taken = ap (λ (n : ℕ). take n order) is_more ∙ take_more order left 0 inside

    fewer_behind : (r : ℕ) → BeginsNone edges (take more order) (edge_at edges r).from → BeginsNone edges (take left order) (edge_at edges r).from
    fewer_behind r none k d within =
        let all : BeginsNone edges (take left order ++ get_or order left 0 ∷ []) (edge_at edges r).from = subst (λ (ps : List ℕ). BeginsNone edges ps (edge_at edges r).from) taken none in
        let at = get_or_append_left (take left order) (get_or order left 0 ∷ []) d k within in
        let holds = all k d (omega (arith, length_push (take left order) (get_or order left 0), within)) in
        rw at at holds

    last_behind : (r : ℕ) → BeginsNone edges (take more order) (edge_at edges r).from → (edge_at edges (get_or order left 0)).from ≢ (edge_at edges r).from
    last_behind r none =
        let all : BeginsNone edges (take left order ++ get_or order left 0 ∷ []) (edge_at edges r).from = subst (λ (ps : List ℕ). BeginsNone edges ps (edge_at edges r).from) taken none in
        let at = get_or-append_seam (take left order) (get_or order left 0) [] 0 in
        let holds = all (length (take left order)) 0 (omega (arith, length_push (take left order) (get_or order left 0))) in
        rw at at holds

    on_fewer : (edge_at edges (get_or order left 0)).from ≢ node → LeadsOn edges (edge_at edges place).from (take more order) node → LeadsOn edges (edge_at edges place).from (take left order) node
    on_fewer not on = elim on [
      | inl e ↦ inl e
      | inr b ↦ inr (any_last (λ p. (edge_at edges p).from ≡ node) (take left order) (get_or order left 0) (subst (λ (ps : List ℕ). Begins edges ps node) taken b) not)
    ]

    pub tracing_stays : (edge_at edges (get_or order left 0)).from ≢ node → IsTracing edges order place left node walk
    tracing_stays not = record {
      rest = t.rest;
      is = t.is;
      within = omega (arith, inside);
      leads = t.leads;
      on = on_fewer not t.on;
      once = t.once;
      behind = λ k d within. fewer_behind (get_or walk k d) (t.behind k d within);
      among = t.among;
      short = omega (arith, t.short, is_more);
    }

    module _ (from : (edge_at edges (get_or order left 0)).from ≡ node) where
      none_behind : BeginsNone edges (take left order) (edge_at edges (get_or order left 0)).from
      none_behind k d within =
          let length_left : length (take left order) ≡ left = length-take-le left order (omega (arith, inside)) in
          let first = get_or-take left order k d (omega (arith, within, length_left)) in
          let second = get_or_default order left d 0 inside in
          let apart_ = tree.once k left d (omega (arith, within, length_left)) inside in
          rw (first, ← second) apart_

      walk_once : VisitsOnce edges (walk ++ get_or order left 0 ∷ [])
      walk_once = once_push edges walk (get_or order left 0) t.once (λ k d within same. last_behind (get_or walk k d) (t.behind k d within) (sym same))

      pub tracing_goes : IsTracing edges order place left (edge_at edges (get_or order left 0)).to (walk ++ get_or order left 0 ∷ [])
      tracing_goes = record {
        rest = t.rest ++ get_or order left 0 ∷ [];
        is = ap (λ (ps : List ℕ). ps ++ get_or order left 0 ∷ []) t.is;
        within = omega (arith, inside);
        leads = walk_push edges (edge_at edges place).to node t.rest (get_or order left 0) t.leads (tree.within left 0 inside) from;
        on = tree.leads left inside;
        once = walk_once;
        behind = All-push (λ r. BeginsNone edges (take left order) (edge_at edges r).from) walk (get_or order left 0) (λ k d within. fewer_behind (get_or walk k d) (t.behind k d within)) none_behind;
        among = All-push (Contains order) t.rest (get_or order left 0) t.among (Contains-get_or order left 0 inside);
        short = omega (arith, t.short, is_more, length_push walk (get_or order left 0));
      }

  pub traced : (left node : ℕ) (walk : List ℕ) → IsTracing edges order place left node walk → left ≡ 0 → IsTrace edges order place walk
  traced left node walk t none = record {
    rest = t.rest;
    is = t.is;
    leads = subst (λ (n : ℕ). LeadsTo edges (edge_at edges place).to t.rest n) at_start t.leads;
    once = t.once;
    among = t.among;
  } where
    at_start : node ≡ (edge_at edges place).from
    at_start = elim t.on [
      | inl e ↦ e
      | inr b ↦ absurd (any_none (λ p. (edge_at edges p).from ≡ node) (subst (λ (n : ℕ). Begins edges (take n order) node) none b))
    ]
