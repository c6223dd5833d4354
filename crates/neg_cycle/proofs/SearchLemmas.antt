-- The search's two lists: what the code reads of them, and what it writes.
use Rattle.std.proofs.Common.{◌≡◌, ◌∙◌, sym, subst, ℕ, ◌*◌, ◌^◌, ◌<◌, ◌≤◌, inl, inr, List, [], ◌∷◌, ◌++◌, length, set, drop, arith, get_or, false, eqb, ℤ, pos, ◌-ℤ◌, ◌≤ℤ◌, ◌<ℤ◌, length-set, get_or-set_other}
use Rattle.std.specs.Prelude.{All, slice_index}
use Rattle.std.specs.List.{list_any}
use Rattle.std.proofs.lemmas.Int.{ints}
use Rattle.std.proofs.lemmas.Bool.{cases_eq}
use Rattle.std.proofs.lemmas.List.{get_or_default}
use Rattle.std.proofs.lemmas.Grind.{get_or-set_at}
use Rattle.neg_cycle.specs.declared.system.Edge.{Edge}
use Rattle.neg_cycle.specs.declared.search.Walk.{Walk}
use Rattle.neg_cycle.specs.Systems.{IsWithin, IsSystem, HasBoundsWithin, number_of, edge_at}
use Rattle.neg_cycle.specs.Search.{nodes_of, IsBest, IsSearch, IsBeginning, IsRefutation, room}
use Rattle.neg_cycle.proofs.WalkLemmas.{places_within}
use Rattle.neg_cycle.proofs.LabelLemmas.{trail_high, limit_bounds, to_below, refutes, rises, room_less, best_other, best_new, best_start}

-- the walk gives node v its number
abbrev Gives : List Edge → List ℤ → ℕ → Walk → Type 0
Gives edges numbers v w = IsBest edges numbers v w.start w.places.items

first_of : (walks : List Walk) → 0 < length walks → Walk
first_of [] some = absurd (omega arith)
first_of (w ∷ ws) some = w

-- the numbers of a search are from 0 to b times the nodes
module _ (edges : List Edge) (numbers : List ℤ) (walks : List Walk) (system : IsSystem (length numbers) edges) (s : IsSearch edges numbers walks) where
  numbers_high : (b : ℕ) → HasBoundsWithin b edges → All (λ x. x ≤ℤ pos (length numbers * b)) numbers
  numbers_high b within v d below =
      let w = first_of walks (omega (arith, s.count)) in
      rw (get_or_default numbers v d (pos 0) below) (trail_high (length numbers) b edges system.each within _ v _ (number_of numbers v) (s.best v w below).trail (s.best v w below).number)

  pub number_range : (v : ℕ) → v < length numbers → IsWithin (pos (2 ^ 110)) (number_of numbers v)
  number_range v below =
      let high = rw (get_or_default numbers v (pos 0) (pos 0) below) at (numbers_high (2 ^ 90) (limit_bounds (length numbers) edges system.each) v (pos 0) below) in
      let few = system.few_nodes in
      let least = s.least v below in
      record { low = omega (arith, ints, least); high = omega (arith, ints, high, few) }

-- the numbers of a search over so many nodes are at most b times the nodes
pub solved_high : (nodes b : ℕ) (edges : List Edge) (numbers : List ℤ) (walks : List Walk) → IsSystem nodes edges → length numbers ≡ nodes
    → IsSearch edges numbers walks → HasBoundsWithin b edges → All (λ x. x ≤ℤ pos (nodes * b)) numbers
solved_high nodes b edges numbers walks system count s within =
    subst (λ n. All (λ x. x ≤ℤ pos (n * b)) numbers) count (numbers_high edges numbers walks (subst (λ n. IsSystem n edges) (sym count) system) s b within)

-- a walk that the code read
pub walk_read : (edges : List Edge) (numbers : List ℤ) (walks : List Walk) (v : ℕ) (w : Walk) → IsSearch edges numbers walks
    → v < length numbers → w ≡ get_or walks v w → All (λ p. p < length edges) w.places.items
walk_read edges numbers walks v w s below is = places_within edges w.start v w.places.items (subst (Gives edges numbers v) (sym is) (s.best v w below)).trail.walk

-- a number that the code read
pub number_read : (xs : List ℤ) (i : ℕ) (x : ℤ) → i < length xs → x ≡ get_or xs i x → number_of xs i ≡ x
number_read xs i x below is = get_or_default xs i (pos 0) x below ∙ sym is

-- the end of the edge at place p has a number below y, the one that meets the edge, and the code read the walk of its beginning
module _ (edges : List Edge) (numbers : List ℤ) (walks : List Walk) (p : ℕ) (y : ℤ) (system : IsSystem (length numbers) edges) (s : IsSearch edges numbers walks) (below : p < length edges)
    (meets : y ≡ number_of numbers (edge_at edges p).from -ℤ (edge_at edges p).bound) (above : number_of numbers (edge_at edges p).to <ℤ y) (w : Walk) (read : w ≡ get_or walks (edge_at edges p).from w) where
  gives : Gives edges numbers (edge_at edges p).from w
  gives = subst (Gives edges numbers (edge_at edges p).from) (sym read) (s.best (edge_at edges p).from w (system.each p (record { from = 0; to = 0; bound = pos 0 }) below).from)

  pub loop_refutes : (i : ℕ) → i ≤ length w.places.items → slice_index (nodes_of edges w.start w.places.items) i ≡ (edge_at edges p).to → IsRefutation edges (drop i w.places.items ++ p ∷ [])
  loop_refutes i within at = refutes edges numbers p y system below meets above w.start w.places.items gives i within at

  module _ (new : list_any (eqb (edge_at edges p).to) (nodes_of edges w.start w.places.items) ≡ false) where
    pub room_raised : room (set numbers (edge_at edges p).to y) < room numbers
    room_raised = room_less edges numbers p y system below meets above w.start w.places.items gives new

    module _ (v : Walk) (start : v.start ≡ w.start) (places : v.places.items ≡ w.places.items ++ p ∷ []) where
      gives_new : Gives edges (set numbers (edge_at edges p).to y) (edge_at edges p).to v
      gives_new = rw (start, places) (best_new edges numbers p y system below meets above w.start w.places.items gives new)

      gives_each : (q : ℕ) (d : Walk) → q < length numbers → Gives edges (set numbers (edge_at edges p).to y) q (get_or (set walks (edge_at edges p).to v) q d)
      gives_each q d within = elim (cases_eq q (edge_at edges p).to) [
        | inl e ↦
            let new_best : Gives edges (set numbers (edge_at edges p).to y) q v = rw e gives_new in
            rw (get_or-set_at walks (edge_at edges p).to q v d e (omega (arith, s.count, to_below edges numbers p y system below meets above w.start w.places.items gives))) new_best
        | inr other ↦
            rw (get_or-set_other walks (edge_at edges p).to q v d other)
            (best_other edges numbers p y system below meets above w.start w.places.items gives q _ _ other (s.best q d within))
      ]

      pub search_raised : IsSearch edges (set numbers (edge_at edges p).to y) (set walks (edge_at edges p).to v)
      search_raised = record {
        count = length-set walks (edge_at edges p).to v ∙ s.count ∙ sym (length-set numbers (edge_at edges p).to y);
        least = λ q within. omega (arith, ints, s.least q (rw (length-set numbers (edge_at edges p).to y) at within), rises edges numbers p y system below meets above w.start w.places.items gives q);
        best = λ q d within. gives_each q d (rw (length-set numbers (edge_at edges p).to y) at within);
      }

gives_start : (edges : List Edge) (numbers : List ℤ) (v : ℕ) (w : Walk) → v < length numbers → number_of numbers v ≡ pos 0 → w.start ≡ v → w.places.items ≡ [] → Gives edges numbers v w
gives_start edges numbers v w below none starts empty = rw (starts, empty) (best_start edges numbers v below none)

pub begins : (edges : List Edge) (nodes : ℕ) (numbers : List ℤ) (walks : List Walk) → IsBeginning nodes numbers walks → IsSearch edges numbers walks
begins edges nodes numbers walks start = record {
  count = omega (arith, start.numbers_count, start.walks_count);
  least = λ v below. rw (start.zero_number v (omega (arith, start.numbers_count))) (omega (arith, ints));
  best =
      λ v d below. gives_start edges numbers v (get_or walks v d) below (start.zero_number v (omega (arith, start.numbers_count)))
      (start.own_start v d (omega (arith, start.numbers_count))) (start.no_places v d (omega (arith, start.numbers_count)));
}
