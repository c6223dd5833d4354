-- Edges that wait: how many there are, and what is left when one is taken out.
use Rattle.std.proofs.Common.{◌≡◌, ◌≢◌, ◌∙◌, ap, sym, subst, refl, ℕ, ◌-◌, ◌<◌, ◌≤◌, inl, inr, List, [], ◌∷◌, length, map, arith, true, false, ℤ, pos, ◌+ℤ◌, ◌≤ℤ◌, ◌<ℤ◌, eqb, get_or}
use Rattle.std.specs.Prelude.{All, Any, Contains, IsPermutation}
use Rattle.std.specs.List.{IsDistinct, list_any}
use Rattle.std.proofs.lemmas.Int.{ints, by_lt_z}
use Rattle.std.proofs.lemmas.Bool.{cases_eq, cases_lt}
use Rattle.std.proofs.lemmas.Bool.Decides.{nat_tests}
use Rattle.std.proofs.lemmas.List.{length-map, get_or-map}
use Rattle.std.proofs.lemmas.List.Folds.{Any-from_list_any}
use Rattle.std.proofs.lemmas.List.Elements.{All-cons, All-contains, All-map, All-nil, All-tail, All-weaker, Contains-append_right, Contains-get_or, recursion_from_All, All-from_recursion}
use Rattle.std.proofs.lemmas.List.Sorted.{All-permutation, Contains-permutation}
use Rattle.std.proofs.lemmas.Map.Keys.{IsDistinct-IsPermutation, IsDistinct-tail}
use Rattle.std.proofs.lemmas.Map.Made.{Contains-tail}
use Rattle.std.proofs.lemmas.Map.Steps.{length-le_from_distinct_below}
use Rattle.neg_cycle.specs.declared.system.Edge.{Edge}
use Rattle.neg_cycle.specs.Systems.{Meets, edge_at}
use Rattle.neg_cycle.proofs.LabelLemmas.{all_met}
use Rattle.difference_graph.specs.declared.waiting.Missed.{Missed}
use Rattle.difference_graph.specs.Incoming.{IsLastMark}
use Rattle.difference_graph.specs.Repairs.{slack}
use Rattle.difference_graph.specs.Queues.{entry_of, IsEnqueued, IsWaiting, WaitsOnce, IsQueue, IsRest, IsNext, IsAdded}

-- no place waits twice among these
module _ where
  once_places : (ws : List Missed) → WaitsOnce ws → IsDistinct eqb (map (λ w. w.place) ws)
  unfolding IsDistinct
  once_places [] once = tt
  once_places (w ∷ ws) once = (
    recursion_from_All (λ y. eqb w.place y ≡ false) (map (λ x. x.place) ws) (All-map (λ y. eqb w.place y ≡ false) (λ x. x.place) ws (All-from_recursion (λ y. eqb w.place y.place ≡ false) ws once.0)),
    once_places ws once.1,
  )

  places_below : (n : ℕ) (ws : List Missed) → All (λ w. w.place < n) ws → (q : ℕ) → list_any (eqb q) (map (λ w. w.place) ws) ≡ true → q < n
  places_below n ws below q found =
      let (k, x, inside, is, same) = Any-from_list_any (eqb q) (map (λ w. w.place) ws) found in
      let in_list : k < length ws = rw length-map at inside in
      let at = get_or-map (λ w. w.place) ws k (record { by = pos 0; place = 0 }) x in_list in
      let low = below k (record { by = pos 0; place = 0 }) in_list in
      let x_below : x < n = rw (sym is ∙ at) low in
      grind (arith, nat_tests)

  -- so there are at most as many as there are places
  pub few_wait : (n : ℕ) (ws : List Missed) → All (λ w. w.place < n) ws → WaitsOnce ws → length ws ≤ n
  few_wait n ws below once =
      let few = length-le_from_distinct_below (map (λ w. w.place) ws) n (once_places ws once) (places_below n ws below) in
      let many : length (map (λ w. w.place) ws) ≡ length ws = simp length-map in
      omega (arith, few, many)

  other_place : (q x : ℕ) → x ≢ q → eqb q x ≡ false
  other_place q x other = grind (arith, nat_tests)

  once_cons : (w : Missed) (ws : List Missed) → WaitsOnce ws → All (λ x. x.place ≢ w.place) ws → WaitsOnce (w ∷ ws)
  unfolding IsDistinct
  once_cons w ws once others = (
    recursion_from_All (λ x. eqb w.place x.place ≡ false) ws
        (All-weaker (λ x. x.place ≢ w.place) (λ x. eqb w.place x.place ≡ false) (λ x other. other_place w.place x.place other) ws others),
    once,
  )

  once_nil : WaitsOnce []
  unfolding IsDistinct
  once_nil = tt

  flips : (x y : Missed) → eqb x.place y.place ≡ eqb y.place x.place
  flips x y = grind (arith, nat_tests)

  once_permuted : (xs ys : List Missed) → IsPermutation xs ys → WaitsOnce xs → WaitsOnce ys
  once_permuted xs ys p once = IsDistinct-IsPermutation (λ x y. eqb x.place y.place) flips xs ys p once

  once_rest : (w : Missed) (ws : List Missed) → WaitsOnce (w ∷ ws) → WaitsOnce ws
  once_rest w ws once = IsDistinct-tail (λ x y. eqb x.place y.place) w ws once

module _ (edges : List Edge) (numbers : List ℤ) where
  entry_waits : (p : ℕ) → p < length edges → IsWaiting edges numbers (entry_of edges numbers p)
  entry_waits p within = record { within = within; by = inl (omega (arith, ints)) }

  -- the edge just before the mark ends at the node
  module _ (node mark end : ℕ) (ws : List Missed) (q : IsQueue edges numbers node mark ws) (some : 0 < mark) (few : mark ≤ length edges) (to : (edge_at edges (mark - 1)).to ≡ node) where
    not_yet : All (λ w. w.place ≢ mark - 1) ws
    not_yet k d within same =
        let at_node : (edge_at edges (get_or ws k d).place).to ≡ node = rw same to in
        omega (arith, q.behind k d within at_node, same, some)

    all_wait : All (IsWaiting edges numbers) (entry_of edges numbers (mark - 1) ∷ ws)
    all_wait = All-cons (IsWaiting edges numbers) (entry_of edges numbers (mark - 1)) ws (entry_waits (mark - 1) (omega (arith, some, few))) q.each

    once_with : WaitsOnce (entry_of edges numbers (mark - 1) ∷ ws)
    once_with = once_cons (entry_of edges numbers (mark - 1)) ws q.once not_yet

    pub queue_room : length ws < length edges
    queue_room =
        let short = few_wait (length edges) (entry_of edges numbers (mark - 1) ∷ ws) (λ k d within. (all_wait k d within).within) once_with in
        omega (arith, short)

    module _ (next : ℕ) (m : IsLastMark edges (mark - 1) (edge_at edges (mark - 1)).to next) where
      -- an edge that is missed and ends at the node
      left_of : (r : ℕ) → r < mark → r ≢ mark - 1 → (edge_at edges r).to ≡ node → r < next
      left_of r before other at = elim (cases_lt r next) [
        | inl below ↦ below
        | inr past ↦ absurd (m.none r past (omega (arith, before, other, some)) (at ∙ sym to))
      ]

      queue_met : pos 0 ≤ℤ slack numbers (edge_at edges (mark - 1)) → IsQueue edges numbers node next ws
      queue_met met = record {
        each = q.each;
        once = q.once;
        behind = λ k d within at. omega (arith, q.behind k d within at, m.within, some);
        waits = λ r below missed. elim (q.waits r below missed) [
          | inl at ↦ elim (cases_eq r (mark - 1)) [
            | inl e ↦ absurd (let low = subst (λ (k : ℕ). slack numbers (edge_at edges k) <ℤ pos 0) e missed in omega (arith, ints, low, met))
            | inr other ↦ inl (at.0, left_of r at.1 other at.0)
          ]
          | inr held ↦ inr held
        ];
      }

      queue_missed : (after : List Missed) → IsPermutation (entry_of edges numbers (mark - 1) ∷ ws) after → IsQueue edges numbers node next after
      queue_missed after p = record {
        each = All-permutation (IsWaiting edges numbers) (entry_of edges numbers (mark - 1) ∷ ws) after p all_wait;
        once = once_permuted (entry_of edges numbers (mark - 1) ∷ ws) after p once_with;
        behind = All-permutation (λ w. (edge_at edges w.place).to ≡ node → next ≤ w.place) (entry_of edges numbers (mark - 1) ∷ ws) after p
            (All-cons (λ w. (edge_at edges w.place).to ≡ node → next ≤ w.place) (entry_of edges numbers (mark - 1)) ws (λ at. m.within)
            (λ k d within at. omega (arith, q.behind k d within at, m.within, some)));
        waits = λ r below missed. elim (q.waits r below missed) [
          | inl at ↦ elim (cases_eq r (mark - 1)) [
            | inl e ↦ inr (subst (λ (k : ℕ). Contains after (entry_of edges numbers k)) (sym e)
                (Contains-permutation (entry_of edges numbers (mark - 1) ∷ ws) after (entry_of edges numbers (mark - 1)) p
                (Contains-get_or (entry_of edges numbers (mark - 1) ∷ ws) 0 (entry_of edges numbers (mark - 1)) (omega arith))))
            | inr other ↦ inl (at.0, left_of r at.1 other at.0)
          ]
          | inr held ↦ inr (Contains-permutation (entry_of edges numbers (mark - 1) ∷ ws) after (entry_of edges numbers r) p
              (Contains-append_right (entry_of edges numbers (mark - 1) ∷ []) ws (entry_of edges numbers r) held))
        ];
      }

      pub queue_step : (after : List Missed) → IsEnqueued edges numbers end (mark - 1) ws after → IsQueue edges numbers node next after
      queue_step after enqueued = elim enqueued [
        | inl met ↦ rw met.1 (queue_met met.0)
        | inr missed ↦ queue_missed after missed.2
      ]

    pub added_step : (before after : List Missed) → All (IsAdded edges node end before) ws → IsEnqueued edges numbers end (mark - 1) ws after → All (IsAdded edges node end before) after
    added_step before after added enqueued = elim enqueued [
      | inl met ↦ rw met.1 added
      | inr missed ↦ All-permutation (IsAdded edges node end before) (entry_of edges numbers (mark - 1) ∷ ws) after missed.2
          (All-cons (IsAdded edges node end before) (entry_of edges numbers (mark - 1)) ws (inl (to, missed.1)) added)
    ]

  -- nothing waits, so no edge is missed
  pub none_missed : (ws : List Missed) → IsQueue edges numbers 0 0 ws → ws ≡ [] → All (Meets numbers) edges
  none_missed ws q none = all_met numbers edges (λ r below. by_lt_z (slack numbers (edge_at edges r)) (pos 0)
      (λ missed. elim (q.waits r below missed) [
        | inl at ↦ absurd (omega (arith, at.1))
        | inr held ↦ absurd (nothing (subst (λ (l : List Missed). Contains l (entry_of edges numbers r)) none held))
      ])
      (λ met. omega (arith, ints, met))) where
        nothing : {x : Missed} → Contains [] x → ⊥
        nothing (k, within, is) = absurd (omega (arith, within))

  -- the one is taken out that is missed by most
  module _ (ws : List Missed) (q : IsQueue edges numbers 0 0 ws) (w : Missed) (rest : List Missed) (p : IsPermutation ws (w ∷ rest)) where
    pub first_waits : IsWaiting edges numbers w
    first_waits = All-permutation (IsWaiting edges numbers) ws (w ∷ rest) p q.each 0 w (omega arith)

    rest_each : All (IsWaiting edges numbers) rest
    rest_each = All-tail (IsWaiting edges numbers) w rest (All-permutation (IsWaiting edges numbers) ws (w ∷ rest) p q.each)

    rest_once : WaitsOnce rest
    rest_once = once_rest w rest (once_permuted ws (w ∷ rest) p q.once)

    in_all : (r : ℕ) → r < length edges → slack numbers (edge_at edges r) <ℤ pos 0 → Contains ws (entry_of edges numbers r)
    in_all r below missed = elim (q.waits r below missed) [ inl at ↦ absurd (omega (arith, at.1)) | inr held ↦ held ]

    in_rest : (r : ℕ) → r < length edges → slack numbers (edge_at edges r) <ℤ pos 0 → r ≢ w.place → Contains rest (entry_of edges numbers r)
    in_rest r below missed other =
        Contains-tail w rest (entry_of edges numbers r) (λ same. other (sym (ap (λ (x : Missed). x.place) same)))
        (Contains-permutation ws (w ∷ rest) (entry_of edges numbers r) p (in_all r below missed))

    -- it was met since
    pub queue_stale : pos 0 ≤ℤ slack numbers (edge_at edges w.place) → IsQueue edges numbers 0 0 rest
    queue_stale met = record {
      each = rest_each;
      once = rest_once;
      behind = λ k d within to. omega arith;
      waits = λ r below missed. inr (in_rest r below missed (λ same. let low = subst (λ (k : ℕ). slack numbers (edge_at edges k) <ℤ pos 0) same missed in absurd (omega (arith, ints, low, met))));
    }

    -- it is missed still
    module _ (missed : slack numbers (edge_at edges w.place) <ℤ pos 0) (most : All (λ x. x.by ≤ℤ w.by) ws) where
      by_is : w.by +ℤ slack numbers (edge_at edges w.place) ≡ pos 0
      by_is = elim first_waits.by [ inl is ↦ is | inr met ↦ absurd (omega (arith, ints, missed, met)) ]

      least : (r : ℕ) → r < length edges → slack numbers (edge_at edges w.place) ≤ℤ slack numbers (edge_at edges r)
      least r below = by_lt_z (slack numbers (edge_at edges r)) (pos 0)
          (λ low.
          let most_r = All-contains (λ x. x.by ≤ℤ w.by) ws (entry_of edges numbers r) most (in_all r below low) in
          omega (arith, ints, most_r, by_is))
          (λ met. omega (arith, ints, met, missed))

      pub next_found : IsNext edges numbers w.place
      next_found = record { tightest = record { within = first_waits.within; least = least }; missed = missed }

    pub rest_found : IsRest edges numbers w.place rest
    rest_found = record {
      each = rest_each;
      once = rest_once;
      waits = λ r below low. elim (cases_eq r w.place) [ inl e ↦ inl e | inr other ↦ inr (in_rest r below low other) ];
    }

-- what is left when the first is taken out waited before, and so did the first
module _ (before ws rest : List Missed) (w : Missed) (fewer : All (Contains before) ws) (p : IsPermutation ws (w ∷ rest)) where
  both : All (Contains before) (w ∷ rest)
  both = All-permutation (Contains before) ws (w ∷ rest) p fewer

  pub still_fewer : All (Contains before) rest
  still_fewer = All-tail (Contains before) w rest both

  pub held_first : Any (λ x. x.place ≡ w.place) before
  held_first = let (k, within, is) = both 0 w (omega arith) in (k, w, within, is, refl)

-- nothing waits but an edge that was enqueued, which is the only one that can be missed
module _ (edges : List Edge) (numbers : List ℤ) (end place : ℕ) (within : place < length edges) (only : (q : ℕ) → q < length edges → slack numbers (edge_at edges q) <ℤ pos 0 → q ≡ place) where
  pub queue_start : (ws : List Missed) → IsEnqueued edges numbers end place [] ws → IsQueue edges numbers 0 0 ws
  queue_start ws enqueued = elim enqueued [
    | inl met ↦ rw met.1 (record {
      each = All-nil (IsWaiting edges numbers);
      once = once_nil;
      behind = λ k d inside to. omega arith;
      waits = λ q below missed. absurd (let low = subst (λ (k : ℕ). slack numbers (edge_at edges k) <ℤ pos 0) (only q below missed) missed in omega (arith, ints, low, met.0));
    })
    | inr missed ↦ record {
      each =
          All-permutation (IsWaiting edges numbers) (entry_of edges numbers place ∷ []) ws missed.2
          (All-cons (IsWaiting edges numbers) (entry_of edges numbers place) [] (entry_waits edges numbers place within)
          (All-nil (IsWaiting edges numbers)));
      once = once_permuted (entry_of edges numbers place ∷ []) ws missed.2 (once_cons (entry_of edges numbers place) [] once_nil (All-nil (λ x. x.place ≢ place)));
      behind = λ k d inside to. omega arith;
      waits =
          λ q below low. inr (subst (λ (k : ℕ). Contains ws (entry_of edges numbers k)) (sym (only q below low))
          (Contains-permutation (entry_of edges numbers place ∷ []) ws (entry_of edges numbers place) missed.2
          (Contains-get_or (entry_of edges numbers place ∷ []) 0 (entry_of edges numbers place) (omega arith))));
    }
  ]

-- all edges were looked at
pub queue_all : (edges : List Edge) (numbers : List ℤ) (node : ℕ) (ws : List Missed) → IsQueue edges numbers node 0 ws → IsQueue edges numbers 0 0 ws
queue_all edges numbers node ws q = record {
  each = q.each;
  once = q.once;
  behind = λ k d within to. omega arith;
  waits = λ r below missed. elim (q.waits r below missed) [ inl at ↦ absurd (omega (arith, at.1)) | inr held ↦ inr held ];
}
