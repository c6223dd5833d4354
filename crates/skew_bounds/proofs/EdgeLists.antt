-- Edges by the nodes where they end, and what holds of all edges.
use Rattle.std.proofs.Common.{◌≡◌, ◌∙◌, ap, refl, sym, arith, ℕ, zero, suc, ◌<◌, inl, inr, List, [], ◌∷◌, ◌++◌, append-nil, length, get_or, set, length-set, get_or-set_other, All, Bool, true, false, cond}
use Rattle.std.specs.Prelude.{◌==◌, Vec, replicate}
use Rattle.std.specs.List.{filter}
use Rattle.std.specs.declared.alloc.Global.{Global}
use Rattle.std.proofs.lemmas.Bool.{cases_eq, ne_eqb}
use Rattle.std.proofs.lemmas.Bool.Decides.{nat_tests}
use Rattle.std.proofs.lemmas.List.{get_or-map, get_or-replicate, get_or-set_same, length-map, length-replicate}
use Rattle.std.proofs.lemmas.List.Elements.{All-filter, All-head, All-tail, All-weaker, filter-append, filter_passes}
use Rattle.neg_cycle.specs.declared.system.Edge.{Edge}
use Rattle.neg_cycle.specs.Systems.{IsEdge}
use Rattle.skew_bounds.specs.Incoming.{AreIncoming, IsNetwork, ending_at, lists_of}

-- the list of a node, where it is read
pub list-at : (lists : List (Vec Edge Global)) (v : ℕ) (list : Vec Edge Global) → v < length lists → list ≡ get_or lists v list → ending_at (lists_of lists) v ≡ list.items
list-at lists v list within is = get_or-map (λ l. l.items) lists v list [] within ∙ ap (λ l. l.items) (sym is)

pub lists-count : (lists : List (Vec Edge Global)) → length (lists_of lists) ≡ length lists
lists-count lists = length-map lists (λ l. l.items)

-- the edges that end at a node
abbrev pub ends-at : ℕ → Edge → Bool
ends-at v e = e.to == v

same-end : (a b : ℕ) → a ≡ b → (a == b) ≡ true
same-end a b same = grind (arith, nat_tests)

equal-ends : (a b : ℕ) → (a == b) ≡ true → a ≡ b
equal-ends a b same = grind (arith, nat_tests)

pub incoming-none : (nodes : ℕ) (lists : List (List Edge)) → lists ≡ replicate nodes [] → AreIncoming nodes [] lists
incoming-none nodes lists is = record { count = rw is (length-replicate nodes []); each = λ v below. rw is (get_or-replicate nodes v [] [] below) }

-- one more edge joins the list of the node where it ends
pub incoming-more : (nodes : ℕ) (edges : List Edge) (edge : Edge) (old new : List (List Edge)) → edge.to < nodes
    → AreIncoming nodes edges old → new ≡ set old edge.to (ending_at old edge.to ++ edge ∷ [])
    → AreIncoming nodes (edges ++ edge ∷ []) new
incoming-more nodes edges edge old new within are added = record {
  count = rw added (length-set old edge.to (ending_at old edge.to ++ edge ∷ []) ∙ are.count);
  each = λ v below. elim (cases_eq v edge.to) [
    | inl same ↦
        rw (
          same,
          added,
          get_or-set_same old edge.to (ending_at old edge.to ++ edge ∷ []) [] (rw are.count within),
          filter-append
              (ends-at edge.to) edges (edge ∷ []),
          same-end edge.to edge.to refl,
          are.each edge.to within,
        )
        refl
    | inr apart ↦
        rw (
          added,
          get_or-set_other old edge.to v (ending_at old edge.to ++ edge ∷ []) [] apart,
          filter-append (ends-at v) edges
              (edge ∷ []),
          ne_eqb edge.to v (λ same. apart (sym same)),
          are.each v below,
        )
        (sym (append-nil (filter (ends-at v) edges)))
  ];
}

-- what holds of the elements that pass a test holds of an element that does
kept-all : {X : Type 0} (P : X → Type 0) (p : X → Bool) (xs : List X) → All P (filter p xs) → (k : ℕ) (d : X) → k < length xs → p (get_or xs k d) ≡ true → P (get_or xs k d)
kept-all P p [] all k d within passes = absurd (omega arith)
kept-all P p (x ∷ xs) all zero d within passes = All-head P x (filter p xs) (rw passes at all)
kept-all P p (x ∷ xs) all (suc k) d within passes = kept-all P p xs (rest (p x) all) k d (omega arith) passes
  where
    rest : (b : Bool) → All P (cond b (x ∷ filter p xs) (filter p xs)) → All P (filter p xs)
    rest true both = All-tail P x (filter p xs) both
    rest false both = both

module _ (nodes : ℕ) (edges : List Edge) (incoming : List (List Edge)) (are : AreIncoming nodes edges incoming) (within : All (IsEdge nodes) edges) where
  -- what holds of all edges holds of those that end at a node
  pub all-incoming : (P : Edge → Type 0) → All P edges → (v : ℕ) → v < nodes → All P (ending_at incoming v)
  all-incoming P all v below = rw (are.each v below) (All-filter (ends-at v) P edges all)

  -- and the other way round
  pub all-edges : (P : Edge → Type 0) → ((v : ℕ) → v < nodes → All P (ending_at incoming v)) → All P edges
  all-edges P each k d below =
      let v = (get_or edges k d).to in
      let in-v : v < nodes = (within k d below).to in
      kept-all P (ends-at v) edges (rw (are.each v in-v) at (each v in-v)) k d below (same-end v v refl)

  pub network-of : IsNetwork incoming
  network-of = record {
    edges = λ v below. rw are.count (all-incoming (IsEdge nodes) within v (rw are.count at below));
    ends = λ v below.
        rw (are.each v (rw are.count at below))
        (All-weaker (λ e. ends-at v e ≡ true) (λ e. e.to ≡ v) (λ e same. equal-ends e.to v same) (filter (ends-at v) edges) (filter_passes (ends-at v) edges));
  }
