-- Walks that are joined and cut, their sums, and the nodes that they visit.
use Rattle.std.proofs.Common.{◌≡◌, ◌≢◌, ◌∙◌, ap, sym, subst, refl, ℕ, zero, suc, ◌+◌, ◌<◌, ◌≤◌, List, [], ◌∷◌, ◌++◌, length, map, take, drop, arith, get_or, pos, ◌+ℤ◌, eqb, Bool, true, false, ◌||◌, inl, inr}
use Rattle.std.specs.Prelude.{All, AllPairs, slice_index}
use Rattle.std.specs.List.{IsDistinct, AllByRecursion, list_any}
use Rattle.std.proofs.lemmas.Int.{ints}
use Rattle.std.proofs.lemmas.Bool.Decides.{nat_tests, Decides-eqb}
use Rattle.std.proofs.lemmas.Grind.{common_steps}
use Rattle.std.proofs.lemmas.List.{take_more, take-append-drop, map-append, length-map, get_or-map}
use Rattle.std.proofs.lemmas.List.Folds.{list_any-append}
use Rattle.std.proofs.Math.Numerals.{add-one}
use Rattle.std.proofs.lemmas.Map.Steps.{length-le_from_distinct_below}
use Rattle.std.proofs.lemmas.Map.Made.{AllPairs-from_IsDistinct}
use Rattle.neg_cycle.specs.declared.system.Edge.{Edge}
use Rattle.neg_cycle.specs.Systems.{IsEdge, edge_at, LeadsTo, IsClosedWalk, VisitsOnce, sum_of_bounds}
use Rattle.neg_cycle.specs.Search.{nodes_of, IsTrail}
use Rattle.std.proofs.lemmas.Bool.{or_cases}
use Rattle.mt_list.proofs.Lists.{first_below}

module _ (edges : List Edge) where
  walk_join : (a b c : ℕ) (ps qs : List ℕ) → LeadsTo edges a ps b → LeadsTo edges b qs c → LeadsTo edges a (ps ++ qs) c
  walk_join a b c [] qs w v = subst (λ n. LeadsTo edges n qs c) (sym w) v
  walk_join a b c (p ∷ ps) qs w v = (w.0, w.1, walk_join (edge_at edges p).to b c ps qs w.2 v)

  sum-append : (ps qs : List ℕ) → sum_of_bounds edges (ps ++ qs) ≡ sum_of_bounds edges ps +ℤ sum_of_bounds edges qs
  sum-append [] qs = omega (arith, ints)
  sum-append (p ∷ ps) qs = omega (arith, ints, sum-append ps qs)

  -- from the node that a walk visits at an index, its rest leads to its end
  walk_rest : (a b : ℕ) (ps : List ℕ) (i : ℕ) → LeadsTo edges a ps b → i ≤ length ps → LeadsTo edges (slice_index (nodes_of edges a ps) i) (drop i ps) b
  walk_rest a b [] zero w within = w
  walk_rest a b [] (suc i) w within = absurd (omega arith)
  walk_rest a b (p ∷ ps) zero w within = w
  walk_rest a b (p ∷ ps) (suc i) w within = walk_rest (edge_at edges p).to b ps i w.2 (omega arith)

  pub places_within : (a b : ℕ) (ps : List ℕ) → LeadsTo edges a ps b → All (λ p. p < length edges) ps
  places_within a b [] w k d below = absurd (omega arith)
  places_within a b (p ∷ ps) w zero d below = w.0
  places_within a b (p ∷ ps) w (suc k) d below = places_within (edge_at edges p).to b ps w.2 k d (omega arith)

  pub sum_push : (ps : List ℕ) (p : ℕ) → sum_of_bounds edges (ps ++ p ∷ []) ≡ sum_of_bounds edges ps +ℤ (edge_at edges p).bound
  sum_push ps p = omega (arith, ints, sum-append ps (p ∷ []))

  pub sum_cut : (ps : List ℕ) (i : ℕ) → sum_of_bounds edges ps ≡ sum_of_bounds edges (take i ps) +ℤ sum_of_bounds edges (drop i ps)
  sum_cut ps i = ap (sum_of_bounds edges) (sym (take-append-drop i ps)) ∙ sum-append (take i ps) (drop i ps)

  walk_push : (a b : ℕ) (ps : List ℕ) (p : ℕ) → LeadsTo edges a ps b → p < length edges → (edge_at edges p).from ≡ b → LeadsTo edges a (ps ++ p ∷ []) (edge_at edges p).to
  walk_push a b ps p w below from = walk_join a b (edge_at edges p).to ps (p ∷ []) w (below, from, refl)

  -- a walk that leads from a node to itself is closed, if it has an edge
  closed_from : (a : ℕ) (ps : List ℕ) → 0 < length ps → LeadsTo edges a ps a → IsClosedWalk edges ps
  closed_from a [] some w = absurd (omega arith)
  closed_from a (p ∷ ps) some w = subst (λ n. LeadsTo edges n (p ∷ ps) n) (sym w.1) w

  -- the nodes where its edges begin, and its last node, are those that a walk visits
  begins_visited : (a b : ℕ) (ps : List ℕ) → LeadsTo edges a ps b → map (λ p. (edge_at edges p).from) ps ++ b ∷ [] ≡ nodes_of edges a ps
  begins_visited a b [] w = rw w refl
  begins_visited a b (p ∷ ps) w =
      let rest = begins_visited (edge_at edges p).to b ps w.2 in
      let first = w.1 in
      cc

  nodes_rest : (a : ℕ) (ps : List ℕ) (i : ℕ) → i ≤ length ps → nodes_of edges (slice_index (nodes_of edges a ps) i) (drop i ps) ≡ drop i (nodes_of edges a ps)
  nodes_rest a [] zero within = refl
  nodes_rest a [] (suc i) within = absurd (omega arith)
  nodes_rest a (p ∷ ps) zero within = refl
  nodes_rest a (p ∷ ps) (suc i) within = nodes_rest (edge_at edges p).to ps i (omega arith)

  pub nodes_push : (a : ℕ) (ps : List ℕ) (p : ℕ) → nodes_of edges a (ps ++ p ∷ []) ≡ nodes_of edges a ps ++ (edge_at edges p).to ∷ []
  nodes_push a ps p = ap (λ ns. a ∷ ns) (map-append (λ q. (edge_at edges q).to) ps (p ∷ []))

distinct_all : (x t : ℕ) (xs : List ℕ) → AllByRecursion (λ y. eqb x y ≡ false) xs → eqb x t ≡ false → AllByRecursion (λ y. eqb x y ≡ false) (xs ++ t ∷ [])
distinct_all x t [] a e = (e, tt)
distinct_all x t (y ∷ ys) a e = (a.0, distinct_all x t ys a.1 e)

apart : (t x : ℕ) → eqb t x ≡ false → eqb x t ≡ false
apart t x e = grind (arith, nat_tests)

none_first : (p q : Bool) → (p || q) ≡ false → p ≡ false
none_first true q e = e
none_first false q e = refl

none_rest : (p q : Bool) → (p || q) ≡ false → q ≡ false
none_rest true q e = absurd cc
none_rest false q e = e

distinct_push : (xs : List ℕ) (t : ℕ) → IsDistinct eqb xs → list_any (eqb t) xs ≡ false → IsDistinct eqb (xs ++ t ∷ [])
unfolding IsDistinct
distinct_push [] t d none = (tt, tt)
distinct_push (x ∷ xs) t d none = (distinct_all x t xs d.0 (apart t x (none_first (eqb t x) (list_any (eqb t) xs) none)), distinct_push xs t d.1 (none_rest (eqb t x) (list_any (eqb t) xs) none))

distinct_drop : (n : ℕ) (xs : List ℕ) → IsDistinct eqb xs → IsDistinct eqb (drop n xs)
unfolding IsDistinct
distinct_drop zero xs d = d
distinct_drop (suc n) [] d = tt
distinct_drop (suc n) (x ∷ xs) d = distinct_drop n xs d.1

-- what a search along a walk knows of one more node
pub visited_more : (node here : ℕ) (ns : List ℕ) (i : ℕ) → i < length ns → list_any (eqb node) (take i ns) ≡ false → here ≡ slice_index ns i
    → (here ≡ node → ⊥) → list_any (eqb node) (take (i + 1) ns) ≡ false
visited_more node here ns i below before at other =
    rw (take_more ns i 0 below, list_any-append (eqb node) (take i ns) (get_or ns i 0 ∷ [])) (grind (arith, nat_tests))

pub visited_next : (edges : List Edge) (a : ℕ) (ps : List ℕ) (i : ℕ) → i < length ps → (edge_at edges (get_or ps i 0)).to ≡ slice_index (nodes_of edges a ps) (i + 1)
visited_next edges a ps i below = rw add-one (sym (get_or-map (λ p. (edge_at edges p).to) ps i 0 0 below))

pairs_of_map : (f : ℕ → ℕ) (xs : List ℕ) → AllPairs (λ x y. x ≢ y) (map f xs) → AllPairs (λ x y. f x ≢ f y) xs
pairs_of_map f xs pairs i j d before within =
    let first = get_or-map f xs i d (f d) (omega arith) in
    let second = get_or-map f xs j d (f d) within in
    let apart_ = pairs i j (f d) before (rw length-map within) in
    λ same. apart_ (first ∙ same ∙ sym second)

module _ (nodes : ℕ) (edges : List Edge) where
  pub trail_push : (a b : ℕ) (ps : List ℕ) (p : ℕ) → IsTrail nodes edges a ps b → p < length edges → (edge_at edges p).from ≡ b → list_any (eqb (edge_at edges p).to) (nodes_of edges a ps) ≡ false
      → IsTrail nodes edges a (ps ++ p ∷ []) (edge_at edges p).to
  trail_push a b ps p t below from new = record {
    start = t.start;
    walk = walk_push edges a b ps p t.walk below from;
    simple = rw (nodes_push edges a ps p) (distinct_push (nodes_of edges a ps) (edge_at edges p).to t.simple new);
  }

  -- the loop of a walk that comes back to the node that it visits at an index
  module _ (a p i : ℕ) (ps : List ℕ) (t : IsTrail nodes edges a ps (edge_at edges p).from) (below : p < length edges) (within : i ≤ length ps) (at : slice_index (nodes_of edges a ps) i ≡ (edge_at edges p).to) where
    rest_leads : LeadsTo edges (edge_at edges p).to (drop i ps) (edge_at edges p).from
    rest_leads = subst (λ n. LeadsTo edges n (drop i ps) (edge_at edges p).from) at (walk_rest edges a (edge_at edges p).from ps i t.walk within)

    pub loop_closed : IsClosedWalk edges (drop i ps ++ p ∷ [])
    loop_closed =
        closed_from edges (edge_at edges p).to (drop i ps ++ p ∷ []) (grind (arith, common_steps))
        (walk_push edges (edge_at edges p).to (edge_at edges p).from (drop i ps) p rest_leads below refl)

    begins_distinct : IsDistinct eqb (map (λ q. (edge_at edges q).from) (drop i ps ++ p ∷ []))
    begins_distinct =
        let begins = begins_visited edges (edge_at edges p).to (edge_at edges p).from (drop i ps) rest_leads in
        let rest = subst (λ n. nodes_of edges n (drop i ps) ≡ drop i (nodes_of edges a ps)) at (nodes_rest edges a ps i within) in
        rw (map-append (λ q. (edge_at edges q).from) (drop i ps) (p ∷ []), begins, rest) (distinct_drop i (nodes_of edges a ps) t.simple)

    pub loop_visits_once : VisitsOnce edges (drop i ps ++ p ∷ [])
    loop_visits_once = pairs_of_map (λ q. (edge_at edges q).from) (drop i ps ++ p ∷ []) (AllPairs-from_IsDistinct Decides-eqb (map (λ q. (edge_at edges q).from) (drop i ps ++ p ∷ [])) begins_distinct)

  module _ (all : All (IsEdge nodes) edges) where
    visits_below : (a b : ℕ) (ps : List ℕ) → a < nodes → LeadsTo edges a ps b → (q : ℕ) → list_any (eqb q) (nodes_of edges a ps) ≡ true → q < nodes
    visits_below a b [] start w q found = elim (or_cases (eqb q a) false found) [ inl e ↦ first_below q a start e | inr r ↦ absurd cc ]
    visits_below a b (p ∷ ps) start w q found = elim (or_cases (eqb q a) (list_any (eqb q) (nodes_of edges (edge_at edges p).to ps)) found) [
      | inl e ↦ first_below q a start e
      | inr r ↦ visits_below (edge_at edges p).to b ps (all p (record { from = 0; to = 0; bound = pos 0 }) w.0).to w.2 q r
    ]

    -- a trail has fewer edges than there are nodes
    pub trail_short : (a b : ℕ) (ps : List ℕ) → IsTrail nodes edges a ps b → length ps < nodes
    trail_short a b ps t =
        let few = length-le_from_distinct_below (nodes_of edges a ps) nodes t.simple (visits_below a b ps t.start t.walk) in
        let many : length (nodes_of edges a ps) ≡ suc (length ps) = simp length-map in
        omega arith
