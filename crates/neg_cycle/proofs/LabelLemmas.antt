-- Numbers that walks give to nodes: how large they are, and what a raise does to them.
use Rattle.std.proofs.Common.{◌≡◌, ◌≢◌, ◌∙◌, ap, sym, subst, refl, ℕ, zero, suc, ◌+◌, ◌*◌, ◌^◌, ◌<◌, ◌≤◌, inl, inr, List, [], ◌∷◌, ◌++◌, length, set, take, drop, arith, false, eqb, ℤ, pos, negsuc, ◌+ℤ◌, ◌-ℤ◌, ◌≤ℤ◌, ◌<ℤ◌, length-set, length-append, get_or-set_other}
use Rattle.std.specs.Prelude.{All, slice_index}
use Rattle.std.specs.List.{IsDistinct, list_any}
use Rattle.std.proofs.lemmas.Int.{ints}
use Rattle.std.proofs.lemmas.Bool.{cases_eq}
use Rattle.std.proofs.lemmas.List.{get_or_default, get_or_append_left, take-append-le, length-map}
use Rattle.std.proofs.lemmas.List.Sums.{sum_by-set}
use Rattle.std.proofs.lemmas.Grind.{get_or-set_at, common_steps}
use Rattle.std.proofs.Math.Seq.{get_or-append_seam}
use Rattle.neg_cycle.specs.declared.system.Edge.{Edge}
use Rattle.neg_cycle.specs.Systems.{IsWithin, IsEdge, IsSystem, HasBoundsWithin, number_of, Meets, edge_at, LeadsTo, sum_of_bounds}
use Rattle.neg_cycle.specs.Search.{nodes_of, IsTrail, Covers, IsBest, IsRefutation, gap, room}
use Rattle.neg_cycle.proofs.WalkLemmas.{trail_short, trail_push, sum_push, sum_cut, nodes_push, loop_closed, loop_visits_once}

-- the sum of a walk whose bounds are within b
sum_within : (b : ℕ) (edges : List Edge) → HasBoundsWithin b edges → (s t : ℕ) (ps : List ℕ) → LeadsTo edges s ps t → IsWithin (pos (length ps * b)) (sum_of_bounds edges ps)
sum_within b edges all s t [] w = record { low = omega (arith, ints); high = omega (arith, ints) }
sum_within b edges all s t (p ∷ ps) w =
    let first = all p (record { from = 0; to = 0; bound = pos 0 }) w.0 in
    let rest = sum_within b edges all (edge_at edges p).to t ps w.2 in
    record { low = omega (arith, ints, first, rest); high = omega (arith, ints, first, rest) }

-- a number that a trail gives is within b times the nodes
pub trail_high : (nodes b : ℕ) (edges : List Edge) → All (IsEdge nodes) edges → HasBoundsWithin b edges → (s t : ℕ) (ps : List ℕ) (x : ℤ)
    → IsTrail nodes edges s ps t → x +ℤ sum_of_bounds edges ps ≡ pos 0 → x ≤ℤ pos (nodes * b)
trail_high nodes b edges all within s t ps x trail number =
    let short = trail_short nodes edges all s t ps trail in
    let sum = sum_within b edges within s t ps trail.walk in
    let more : length ps * b ≤ nodes * b = grind (arith, common_steps) in
    omega (arith, ints, sum, number, more)

-- the bounds of a system are within the limit
pub limit_bounds : (nodes : ℕ) (edges : List Edge) → All (IsEdge nodes) edges → HasBoundsWithin (2 ^ 90) edges
limit_bounds nodes edges all k d below = (all k d below).bound

trail_below : (nodes : ℕ) (edges : List Edge) → IsSystem nodes edges → (s t : ℕ) (ps : List ℕ) (x : ℤ) → IsTrail nodes edges s ps t → x +ℤ sum_of_bounds edges ps ≡ pos 0 → x ≤ℤ pos (2 ^ 110)
trail_below nodes edges system s t ps x trail number =
    let high = trail_high nodes (2 ^ 90) edges system.each (limit_bounds nodes edges system.each) s t ps x trail number in
    let few = system.few_nodes in
    omega (arith, ints, high, few)

gap_falls : (x y : ℤ) → x <ℤ y → y ≤ℤ pos (2 ^ 110) → gap y < gap x
gap_falls (pos a) (pos b) less high = omega (arith, ints)
gap_falls (pos a) (negsuc b) less high = absurd (omega (arith, ints))
gap_falls (negsuc a) (pos b) less high = omega (arith, ints)
gap_falls (negsuc a) (negsuc b) less high = omega (arith, ints)

room_falls : (numbers : List ℤ) (i : ℕ) (y : ℤ) → i < length numbers → number_of numbers i <ℤ y → y ≤ℤ pos (2 ^ 110) → room (set numbers i y) < room numbers
room_falls numbers i y below less high =
    let falls = gap_falls (number_of numbers i) y less high in
    let both = sum_by-set gap numbers i y (pos 0) below in
    omega arith

-- numbers that meet the edge at each place meet all edges
pub all_met : (numbers : List ℤ) (edges : List Edge) → ((p : ℕ) → p < length edges → Meets numbers (edge_at edges p)) → All (Meets numbers) edges
all_met numbers edges met p d below = rw (get_or_default edges p d (record { from = 0; to = 0; bound = pos 0 }) below) (met p below)

-- the end of the edge at place p has a number below y, the one that meets the edge, and a walk gives its beginning its number
module _ (edges : List Edge) (numbers : List ℤ) (p : ℕ) (y : ℤ) (system : IsSystem (length numbers) edges) (below : p < length edges)
    (meets : y ≡ number_of numbers (edge_at edges p).from -ℤ (edge_at edges p).bound) (above : number_of numbers (edge_at edges p).to <ℤ y)
    (a : ℕ) (ps : List ℕ) (best : IsBest edges numbers (edge_at edges p).from a ps) where
  pub to_below : (edge_at edges p).to < length numbers
  to_below = (system.each p (record { from = 0; to = 0; bound = pos 0 }) below).to

  -- the walk comes back
  module _ (i : ℕ) (within : i ≤ length ps) (at : slice_index (nodes_of edges a ps) i ≡ (edge_at edges p).to) where
    loop_negative : sum_of_bounds edges (drop i ps ++ p ∷ []) <ℤ pos 0
    loop_negative =
        let pushed = sum_push edges (drop i ps) p in
        let whole = sum_cut edges ps i in
        let number = best.number in
        let way = rw at at (best.covered i within) in
        omega (arith, ints, pushed, whole, number, way, meets, above)

    pub refutes : IsRefutation edges (drop i ps ++ p ∷ [])
    refutes = record {
      negative = record {
        closed = loop_closed (length numbers) edges a p i ps best.trail below within at;
        negative = loop_negative;
      };
      once = loop_visits_once (length numbers) edges a p i ps best.trail below within at;
    }

  pub rises : (q : ℕ) → number_of numbers q ≤ℤ number_of (set numbers (edge_at edges p).to y) q
  rises q = elim (cases_eq q (edge_at edges p).to) [
    | inl e ↦ rw (get_or-set_at numbers (edge_at edges p).to q y (pos 0) e to_below, e) (omega (arith, ints, above))
    | inr other ↦ rw (get_or-set_other numbers (edge_at edges p).to q y (pos 0) other) (omega (arith, ints))
  ]

  pub best_other : (q b : ℕ) (qs : List ℕ) → q ≢ (edge_at edges p).to → IsBest edges numbers q b qs → IsBest edges (set numbers (edge_at edges p).to y) q b qs
  best_other q b qs other old = record {
    trail = rw (length-set numbers (edge_at edges p).to y) old.trail;
    number = rw (get_or-set_other numbers (edge_at edges p).to q y (pos 0) other) old.number;
    covered = λ i within. omega (arith, ints, old.covered i within, rises (slice_index (nodes_of edges b qs) i));
  }

  -- the walk goes on to the end of the edge
  module _ (new : list_any (eqb (edge_at edges p).to) (nodes_of edges a ps) ≡ false) where
    longer : IsTrail (length numbers) edges a (ps ++ p ∷ []) (edge_at edges p).to
    longer = trail_push (length numbers) edges a (edge_at edges p).from ps p best.trail below refl new

    number_new : y +ℤ sum_of_bounds edges (ps ++ p ∷ []) ≡ pos 0
    number_new =
        let pushed = sum_push edges ps p in
        let number = best.number in
        omega (arith, ints, pushed, number, meets)

    pub room_less : room (set numbers (edge_at edges p).to y) < room numbers
    room_less = room_falls numbers (edge_at edges p).to y to_below above (trail_below (length numbers) edges system a (edge_at edges p).to (ps ++ p ∷ []) y longer number_new)

    covered_before : (i : ℕ) → i ≤ length ps
        → pos 0 ≤ℤ (number_of (set numbers (edge_at edges p).to y) (slice_index (nodes_of edges a (ps ++ p ∷ [])) i) +ℤ sum_of_bounds edges (take i (ps ++ p ∷ [])))
    covered_before i within =
        let many : length (nodes_of edges a ps) ≡ suc (length ps) = simp length-map in
        let node : slice_index (nodes_of edges a (ps ++ p ∷ [])) i ≡ slice_index (nodes_of edges a ps) i =
        ap (λ ns. slice_index ns i) (nodes_push edges a ps p) ∙ get_or_append_left (nodes_of edges a ps) ((edge_at edges p).to ∷ []) 0 i (omega arith) in
        rw (node, take-append-le i ps (p ∷ []) within)
        (omega (arith, ints, best.covered i within, rises (slice_index (nodes_of edges a ps) i)))

    covered_last : pos 0 ≤ℤ (number_of (set numbers (edge_at edges p).to y) (slice_index (nodes_of edges a (ps ++ p ∷ [])) (length ps + 1)) +ℤ sum_of_bounds edges (take (length ps + 1) (ps ++ p ∷ [])))
    covered_last =
        let many : length ps + 1 ≡ length (nodes_of edges a ps) = simp length-map (omega arith) in
        let node : slice_index (nodes_of edges a (ps ++ p ∷ [])) (length ps + 1) ≡ (edge_at edges p).to =
        rw (nodes_push edges a ps p, many) (get_or-append_seam (nodes_of edges a ps) (edge_at edges p).to [] 0) in
        let all : take (length ps + 1) (ps ++ p ∷ []) ≡ ps ++ p ∷ [] = grind (arith, common_steps) in
        rw (node, all, get_or-set_at numbers (edge_at edges p).to (edge_at edges p).to y (pos 0) refl to_below) (omega (arith, ints, number_new))

    covered_new : Covers edges (set numbers (edge_at edges p).to y) a (ps ++ p ∷ [])
    covered_new i within = elim (cases_eq i (length ps + 1)) [
      | inl e ↦ subst (λ n. pos 0 ≤ℤ (number_of (set numbers (edge_at edges p).to y) (slice_index (nodes_of edges a (ps ++ p ∷ [])) n) +ℤ
          sum_of_bounds edges (take n (ps ++ p ∷ [])))) (sym e) covered_last
      | inr other ↦ covered_before i (omega (arith, length-append ps (p ∷ [])))
    ]

    pub best_new : IsBest edges (set numbers (edge_at edges p).to y) (edge_at edges p).to a (ps ++ p ∷ [])
    best_new = record {
      trail = rw (length-set numbers (edge_at edges p).to y) longer;
      number = rw (get_or-set_at numbers (edge_at edges p).to (edge_at edges p).to y (pos 0) refl to_below) number_new;
      covered = covered_new;
    }

distinct_one : (a : ℕ) → IsDistinct eqb (a ∷ [])
unfolding IsDistinct
distinct_one a = (tt, tt)

covered_start : (edges : List Edge) (numbers : List ℤ) (v : ℕ) → number_of numbers v ≡ pos 0 → Covers edges numbers v []
covered_start edges numbers v none zero within = rw none (omega (arith, ints))
covered_start edges numbers v none (suc i) within = absurd (omega arith)

-- the walk without an edge gives a node the number 0
pub best_start : (edges : List Edge) (numbers : List ℤ) (v : ℕ) → v < length numbers → number_of numbers v ≡ pos 0 → IsBest edges numbers v v []
best_start edges numbers v below none = record {
  trail = record { start = below; walk = refl; simple = distinct_one v };
  number = rw none refl;
  covered = covered_start edges numbers v none;
}
