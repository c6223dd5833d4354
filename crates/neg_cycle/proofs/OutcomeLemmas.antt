-- Each system has an outcome: while an edge is not met, a raise or a loop is at hand, and the room for raises ends.
use Rattle.std.proofs.Common.{◌≡◌, ◌∙◌, sym, subst, refl, ℕ, zero, suc, ◌<◌, ◌≤◌, ◌⊎◌, inl, inr, List, [], ◌∷◌, ◌++◌, length, set, drop, arith, true, false, eqb, ℤ, pos, negsuc, ◌-ℤ◌, ◌≤ℤ◌, ◌<ℤ◌, length-set}
use Rattle.std.specs.Prelude.{slice_index, replicate}
use Rattle.std.specs.List.{list_any}
use Rattle.std.proofs.lemmas.Int.{ints}
use Rattle.std.proofs.lemmas.Bool.{cases_eq, cases_lt, cases_Bool, or_cases}
use Rattle.std.proofs.lemmas.Bool.Decides.{nat_tests}
use Rattle.std.proofs.lemmas.List.{length-replicate, get_or-replicate, length-map}
use Rattle.neg_cycle.specs.declared.system.Edge.{Edge}
use Rattle.neg_cycle.specs.declared.outcome.Outcome.TheVariants.{Potential, Cycle}
use Rattle.neg_cycle.specs.Systems.{IsSystem, number_of, Meets, edge_at}
use Rattle.neg_cycle.specs.Search.{nodes_of, IsBest, room}
use Rattle.neg_cycle.specs.Laws.{HasOutcome, SystemsHaveOutcomes}
use Rattle.neg_cycle.proofs.LabelLemmas.{all_met, refutes, room_less, best_other, best_new, best_start}

int_cases : (x y : ℤ) → (x ≤ℤ y) ⊎ (y <ℤ x)
int_cases (pos a) (pos b) = elim (cases_lt b a) [ inl l ↦ inr (omega (arith, ints)) | inr l ↦ inl (omega (arith, ints)) ]
int_cases (pos a) (negsuc b) = inr (omega (arith, ints))
int_cases (negsuc a) (pos b) = inl (omega (arith, ints))
int_cases (negsuc a) (negsuc b) = elim (cases_lt a b) [ inl l ↦ inr (omega (arith, ints)) | inr l ↦ inl (omega (arith, ints)) ]

-- an edge that the numbers do not meet
record IsUnmet (numbers : List ℤ) (edges : List Edge) : Type 0 where
  place : ℕ
  below : place < length edges
  above : number_of numbers (edge_at edges place).to <ℤ (number_of numbers (edge_at edges place).from -ℤ (edge_at edges place).bound)

unmet_below : (numbers : List ℤ) (edges : List Edge) (n : ℕ) → n ≤ length edges → ((p : ℕ) → p < n → Meets numbers (edge_at edges p)) ⊎ IsUnmet numbers edges
unmet_below numbers edges zero within = inl (λ p below. absurd (omega arith))
unmet_below numbers edges (suc n) within = elim (unmet_below numbers edges n (omega arith)) [
  | inr unmet ↦ inr unmet
  | inl met ↦ elim (int_cases (number_of numbers (edge_at edges n).from -ℤ (edge_at edges n).bound) (number_of numbers (edge_at edges n).to)) [
    | inl least ↦ inl (λ p below. elim (cases_eq p n) [ inl e ↦ rw e (omega (arith, ints, least)) | inr other ↦ met p (omega arith) ])
    | inr above ↦ inr (record { place = n; below = omega arith; above = above })
  ]
]

-- where a node stands in a list of nodes
record StandsAt (node : ℕ) (ns : List ℕ) : Type 0 where
  index : ℕ
  within : index < length ns
  here : slice_index ns index ≡ node

stands_at : (node : ℕ) (ns : List ℕ) → list_any (eqb node) ns ≡ true → StandsAt node ns
stands_at node [] found = absurd (cc)
stands_at node (n ∷ ns) found = elim (or_cases (eqb node n) (list_any (eqb node) ns) found) [
  | inl e ↦ record { index = 0; within = omega arith; here = grind (arith, nat_tests) }
  | inr r ↦
      let rest = stands_at node ns r in
      record { index = suc rest.index; within = omega (arith, rest.within); here = rest.here }
]

-- some walk gives node v its number
record IsGiven (edges : List Edge) (numbers : List ℤ) (v : ℕ) : Type 0 where
  start : ℕ
  places : List ℕ
  best : IsBest edges numbers v start places

-- numbers with less room, each given by some walk
record IsRaised (edges : List Edge) (numbers : List ℤ) : Type 0 where
  raised : List ℤ
  count : length raised ≡ length numbers
  less : room raised < room numbers
  given : (v : ℕ) → v < length raised → IsGiven edges raised v

module _ (edges : List Edge) (numbers : List ℤ) (system : IsSystem (length numbers) edges) (given : (v : ℕ) → v < length numbers → IsGiven edges numbers v) where
  -- an edge that is not met, whose beginning has its number by a walk
  module _ (p : ℕ) (below : p < length edges) (above : number_of numbers (edge_at edges p).to <ℤ (number_of numbers (edge_at edges p).from -ℤ (edge_at edges p).bound))
      (a : ℕ) (ps : List ℕ) (best : IsBest edges numbers (edge_at edges p).from a ps) where
    loop_at : StandsAt (edge_at edges p).to (nodes_of edges a ps) → HasOutcome (length numbers) edges
    loop_at at =
        let many : length (nodes_of edges a ps) ≡ suc (length ps) = simp length-map in
        let loop = refutes edges numbers p _ system below refl above a ps best at.index (omega (arith, at.within)) at.here in
        record { outcome = Cycle (drop at.index ps ++ p ∷ []); found = tt; cycle = loop.negative; once = loop.once }

    raise_at : list_any (eqb (edge_at edges p).to) (nodes_of edges a ps) ≡ false → IsRaised edges numbers
    raise_at new = record {
      raised = set numbers (edge_at edges p).to (number_of numbers (edge_at edges p).from -ℤ (edge_at edges p).bound);
      count = length-set numbers (edge_at edges p).to (number_of numbers (edge_at edges p).from -ℤ (edge_at edges p).bound);
      less = room_less edges numbers p _ system below refl above a ps best new;
      given = λ v within. elim (cases_eq v (edge_at edges p).to) [
        | inl e ↦ rw e (record { start = a; places = ps ++ p ∷ []; best = best_new edges numbers p _ system below refl above a ps best new })
        | inr other ↦
            let old = given v (rw (length-set numbers (edge_at edges p).to (number_of numbers (edge_at edges p).from -ℤ (edge_at edges p).bound)) at within) in
            record { start = old.start; places = old.places; best = best_other edges numbers p _ system below refl above a ps best v old.start old.places other old.best }
      ];
    }

    step_at : HasOutcome (length numbers) edges ⊎ IsRaised edges numbers
    step_at = elim (cases_Bool (list_any (eqb (edge_at edges p).to) (nodes_of edges a ps))) [
      | inl back ↦ inl (loop_at (stands_at (edge_at edges p).to (nodes_of edges a ps) back))
      | inr new ↦ inr (raise_at new)
    ]

  step : HasOutcome (length numbers) edges ⊎ IsRaised edges numbers
  step = elim (unmet_below numbers edges (length edges) (omega arith)) [
    | inl met ↦ inl (record { outcome = Potential numbers; found = record { count = refl; meets = all_met numbers edges met }; cycle = tt; once = tt })
    | inr unmet ↦
        let walk = given (edge_at edges unmet.place).from (system.each unmet.place (record { from = 0; to = 0; bound = pos 0 }) unmet.below).from in
        step_at unmet.place unmet.below unmet.above walk.start walk.places walk.best
  ]

module _ (nodes : ℕ) (edges : List Edge) (system : IsSystem nodes edges) where
  outcome_from : (n : ℕ) (numbers : List ℤ) → room numbers < n → length numbers ≡ nodes → ((v : ℕ) → v < length numbers → IsGiven edges numbers v) → HasOutcome nodes edges
  outcome_from zero numbers less count given = absurd (omega arith)
  outcome_from (suc n) numbers less count given = elim (step edges numbers (subst (λ m. IsSystem m edges) (sym count) system) given) [
    | inl outcome ↦ subst (λ m. HasOutcome m edges) count outcome
    | inr next ↦ outcome_from n next.raised (omega (arith, next.less)) (next.count ∙ count) next.given
  ]

pub have_outcomes : SystemsHaveOutcomes
have_outcomes nodes edges system =
    outcome_from nodes edges system (suc (room (replicate nodes (pos 0)))) (replicate nodes (pos 0)) (omega arith) (length-replicate nodes (pos 0)) (λ v below.
    let within : v < nodes = rw (length-replicate nodes (pos 0)) at below in
    record { start = v; places = []; best = best_start edges (replicate nodes (pos 0)) v below (get_or-replicate nodes v (pos 0) (pos 0) within) })
