-- Marks by which the edges are found that end at a node: what they are with one edge more.
use Rattle.std.proofs.Common.{◌≡◌, ◌≢◌, ◌∙◌, ap, sym, subst, refl, ℕ, ◌+◌, ◌-◌, ◌<◌, ◌≤◌, inl, inr, List, [], ◌∷◌, ◌++◌, length, set, arith, pos, get_or, length-set, get_or-set_other}
use Rattle.std.proofs.lemmas.Bool.{cases_eq}
use Rattle.std.proofs.lemmas.Grind.{get_or-set_at}
use Rattle.std.proofs.lemmas.List.{get_or_append_left, length_push}
use Rattle.std.proofs.lemmas.List.Elements.{All-push}
use Rattle.std.proofs.Math.Seq.{get_or-append_seam}
use Rattle.neg_cycle.specs.declared.system.Edge.{Edge}
use Rattle.neg_cycle.specs.Systems.{edge_at}
use Rattle.difference_graph.specs.Incoming.{IsLastMark, AreIncoming}

module _ (edges : List Edge) (edge : Edge) where
  edge_before : (q : ℕ) → q < length edges → edge_at (edges ++ edge ∷ []) q ≡ edge_at edges q
  edge_before q below = get_or_append_left edges (edge ∷ []) (record { from = 0; to = 0; bound = pos 0 }) q below

  edge_last : edge_at (edges ++ edge ∷ []) (length edges) ≡ edge
  edge_last = get_or-append_seam edges edge [] (record { from = 0; to = 0; bound = pos 0 })

  -- a mark of edges among the first ones
  mark_still : (n node mark : ℕ) → n ≤ length edges → IsLastMark edges n node mark → IsLastMark (edges ++ edge ∷ []) n node mark
  mark_still n node mark few m = record {
    within = m.within;
    ends = λ some. rw (edge_before (mark - 1) (omega (arith, some, m.within, few))) (m.ends some);
    none = λ q above below. rw (edge_before q (omega (arith, below, few))) (m.none q above below);
  }

  -- the mark of a node where the new edge does not end
  mark_other : (node mark : ℕ) → node ≢ edge.to → IsLastMark edges (length edges) node mark → IsLastMark (edges ++ edge ∷ []) (length (edges ++ edge ∷ [])) node mark
  mark_other node mark other m = record {
    within = omega (arith, m.within, length_push edges edge);
    ends = λ some. rw (edge_before (mark - 1) (omega (arith, some, m.within))) (m.ends some);
    none = λ q above below. elim (cases_eq q (length edges)) [
      | inl e ↦ subst (λ (k : ℕ). (edge_at (edges ++ edge ∷ []) k).to ≢ node) (sym e) (rw edge_last (λ same. other (sym same)))
      | inr before ↦
          let first : q < length edges = omega (arith, below, before, length_push edges edge) in
          rw (edge_before q first) (m.none q above first)
    ];
  }

  -- the mark of the node where it does
  mark_new : IsLastMark (edges ++ edge ∷ []) (length (edges ++ edge ∷ [])) edge.to (length edges + 1)
  mark_new = record {
    within = omega (arith, length_push edges edge);
    ends = λ some. let at : length edges + 1 - 1 ≡ length edges = omega arith in rw (at, edge_last) refl;
    none = λ q above below. absurd (omega (arith, above, below, length_push edges edge));
  }

  module _ (last before : List ℕ) (i : AreIncoming edges last before) (inside : edge.to < length last) (mark : ℕ) (is_mark : mark ≡ length edges + 1) where
    node_marks : (v : ℕ) → v < length last → IsLastMark (edges ++ edge ∷ []) (length (edges ++ edge ∷ [])) v (get_or (set last edge.to mark) v 0)
    node_marks v below = elim (cases_eq v edge.to) [
      | inl e ↦
          let at = get_or-set_at last edge.to v mark 0 e inside in
          rw (at, is_mark, e) mark_new
      | inr other ↦
          let at = get_or-set_other last edge.to v mark 0 other in
          rw at (mark_other v (get_or last v 0) other (i.nodes v below))
    ]

    place_marks : (p : ℕ) → p < length (edges ++ edge ∷ []) → IsLastMark (edges ++ edge ∷ []) p (edge_at (edges ++ edge ∷ []) p).to (get_or (before ++ get_or last edge.to 0 ∷ []) p 0)
    place_marks p below = elim (cases_eq p (length edges)) [
      | inl e ↦
          let at = ap (λ (k : ℕ). get_or (before ++ get_or last edge.to 0 ∷ []) k 0) (e ∙ sym i.count) ∙ get_or-append_seam before (get_or last edge.to 0) [] 0 in
          rw (at, e, edge_last) (mark_still (length edges) edge.to (get_or last edge.to 0) (omega arith) (i.nodes edge.to inside))
      | inr other ↦
          let first : p < length edges = omega (arith, below, other, length_push edges edge) in
          let at = get_or_append_left before (get_or last edge.to 0 ∷ []) 0 p (omega (arith, first, i.count)) in
          rw (at, edge_before p first) (mark_still p (edge_at edges p).to (get_or before p 0) (omega (arith, first)) (i.places p first))
    ]

    pub incoming_push : AreIncoming (edges ++ edge ∷ []) (set last edge.to mark) (before ++ get_or last edge.to 0 ∷ [])
    incoming_push = record {
      count = length_push before (get_or last edge.to 0) ∙ ap (λ n. n + 1) i.count ∙ sym (length_push edges edge);
      ends = let count = length-set last edge.to mark in rw count (All-push (λ e. e.to < length last) edges edge i.ends inside);
      nodes = λ v below. node_marks v (omega (arith, below, length-set last edge.to mark));
      places = place_marks;
    }

-- a mark of more edges is one of those before it
pub next_mark : (edges : List Edge) (n node mark : ℕ) → IsLastMark edges n node mark → IsLastMark edges mark node mark
next_mark edges n node mark m = record { within = omega arith; ends = m.ends; none = λ q above below. absurd (omega (arith, above, below)) }
