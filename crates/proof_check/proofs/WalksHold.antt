-- In a timing that the log admits, not all order steps of a conflict hold.
use Rattle.std.proofs.Common.{◌≡◌, ◌∙◌, sym, refl, ℕ, ◌<◌, ◌==◌, ◌&&◌, not, length, Bool, true, false, if◌then◌else◌, List, [], ◌∷◌, Some, inl, inr, ℤ, pos, ◌+ℤ◌, ◌-ℤ◌, ◌≤ℤ◌, neg_ℤ, arith}
use Rattle.std.specs.Prelude.{nat_lt, int_le}
use Rattle.std.specs.List.{Contains, filter_map}
use Rattle.std.proofs.lemmas.Int.{ints}
use Rattle.std.proofs.lemmas.Bool.{cases_Bool, ltb-true, not-false, not-true}
use Rattle.std.proofs.lemmas.Option.{cond_some}
use Rattle.mt_model.specs.declared.limits.TheConstants.{MAX_ORDER}
use Rattle.mt_model.specs.declared.step.Step.{Step}
use Rattle.mt_model.specs.declared.step.Step.TheVariants.{Low, High, Rise, Message, Late, Under, Over, Extra, Order}
use Rattle.mt_model.specs.Form.{Form}
use Rattle.mt_model.specs.Log.{Logged}
use Rattle.mt_model.specs.Timing.{Admissible, time_of}
use Rattle.mt_model.specs.Walks.{Conflict, Edge, HasEdges, IsClosedWalk, LeadsTo, edge_of, is_order, is_row, node_time, sum_of_bounds}
use Rattle.mt_model.proofs.Conflicts.{both_true, edge_holds, times}
use Rattle.mt_model.proofs.NodeTimes.{row-time}
use Rattle.hint_refutation.specs.Laws.{IsValuation}
use Rattle.hint_refutation.proofs.Lists.{contains_first, contains_later, any_true, given_stands, value_turned}
use Rattle.axiom_rules.specs.declared.literal.Atom.TheVariants as atom
use Rattle.axiom_rules.specs.declared.literal.Literal.{Literal}
use Rattle.axiom_rules.specs.Holds.{clause_holds, holds}
use Rattle.axiom_rules.specs.Literals.{negated, no, order_literal, yes}
use Rattle.axiom_rules.specs.Parts.{each_once}
use Rattle.proof_log.specs.Derivations.{negated_step}
use Rattle.proof_check.proofs.Standing.{stands_once}

-- the time of an edge's first end is at most that of its last and its bound
abbrev pub Holds : List ℤ → Edge → Type 0
Holds t x = node_time t x.from ≤ℤ (node_time t x.to +ℤ x.bound)

module _ (log : Logged) (t : List ℤ) (trees : List Form) where
  pub valuation : IsValuation negated (holds log t trees)
  valuation l = value_turned l.positive _

  -- an order literal that holds says what its step does
  order_means : (e f : ℕ) (c : ℤ) → holds log t trees (order_literal e f c) ≡ true → time_of t e ≤ℤ (time_of t f +ℤ c)
  order_means e f c h = go (nat_lt e f) h
    where
      go : (b : Bool) → holds log t trees (if b then yes (atom.Order e f c) else no (atom.Order f e (neg_ℤ c -ℤ pos 1))) ≡ true → time_of t e ≤ℤ (time_of t f +ℤ c)
      go true is = let at_most : int_le (time_of t e -ℤ time_of t f) c ≡ true = is in omega (arith, ints)
      go false is = let above : int_le (time_of t f -ℤ time_of t e) (neg_ℤ c -ℤ pos 1) ≡ false = not-true _ is in omega (arith, ints)

  -- both ends of an order step are rows
  order_rows : (e f : ℕ) (c : ℤ) → is_order log e f c ≡ true → (e < length log.rows) × (f < length log.rows)
  order_rows e f c is =
      let (rest, high) = both_true (is_row log e && is_row log f && not (e == f) && int_le (neg_ℤ MAX_ORDER) c) (int_le c MAX_ORDER) is in
      let (ends, low) = both_true (is_row log e && is_row log f && not (e == f)) (int_le (neg_ℤ MAX_ORDER) c) rest in
      let (rows, apart) = both_true (is_row log e && is_row log f) (not (e == f)) ends in
      let (first, second) = both_true (is_row log e) (is_row log f) rows in
      (ltb-true _ _ first, ltb-true _ _ second)

  -- a step holds where it is a bound, or the literal of its negation fails
  step_holds : (ok : Admissible log t) (step : Step) (x : Edge) → edge_of log step ≡ Some x → ((l : Literal) → negated_step step ≡ Some l → holds log t trees l ≡ false) → Holds (times log t ok) x
  step_holds ok (Low e) x is fails = edge_holds log t ok (Low e) x tt is
  step_holds ok (High e) x is fails = edge_holds log t ok (High e) x tt is
  step_holds ok (Rise e) x is fails = edge_holds log t ok (Rise e) x tt is
  step_holds ok (Message e) x is fails = edge_holds log t ok (Message e) x tt is
  step_holds ok (Late e) x is fails = edge_holds log t ok (Late e) x tt is
  step_holds ok (Under e) x is fails = edge_holds log t ok (Under e) x tt is
  step_holds ok (Over e) x is fails = edge_holds log t ok (Over e) x tt is
  step_holds ok (Extra k) x is fails = edge_holds log t ok (Extra k) x tt is
  step_holds ok (Order e f c) x is fails =
      let parts = cond_some (is_order log e f c) _ x is in
      let rows = order_rows e f c parts.0 in
      let first = row-time log t ok.clocks.offsets ok.count e rows.0 in
      let second = row-time log t ok.clocks.offsets ok.count f rows.1 in
      let met = order_means e f c (not-false _ (sym (valuation (order_literal e f c)) ∙ fails (negated (order_literal e f c)) refl)) in
      rw (← parts.1) (omega (arith, ints, met, first, second))

  -- along a walk whose steps hold at times of nodes, those of the ends differ by at most the sum of the bounds
  walk_holds : (all : List ℤ) (steps : List Step) (edges : List Edge) (a b : ℕ) → ((s : Step) (x : Edge) → Contains steps s → edge_of log s ≡ Some x → Holds all x) → HasEdges log steps edges → LeadsTo a edges b
      → node_time all a ≤ℤ (node_time all b +ℤ sum_of_bounds edges)
  walk_holds all [] [] a b each found leads = rw leads (omega (arith, ints))
  walk_holds all [] (x ∷ xs) a b each found leads = absurd (cc)
  walk_holds all (s ∷ ss) [] a b each found leads = absurd (cc)
  walk_holds all (s ∷ ss) (x ∷ xs) a b each found leads =
      let here : edge_of log s ≡ Some x = cc in
      let others : HasEdges log ss xs = cc in
      let first = rw leads.0 at (each s x (contains_first s ss) here) in
      let rest = walk_holds all ss xs x.to b (λ r y has is. each r y (contains_later s r ss has) is) others leads.1 in
      omega (arith, ints, first, rest)

  closed_walk_holds : (all : List ℤ) (steps : List Step) (edges : List Edge) → ((s : Step) (x : Edge) → Contains steps s → edge_of log s ≡ Some x → Holds all x) → HasEdges log steps edges → IsClosedWalk edges
      → pos 0 ≤ℤ sum_of_bounds edges
  closed_walk_holds all steps [] each found closed = absurd closed
  closed_walk_holds all steps (x ∷ xs) each found closed =
      let whole = walk_holds all steps (x ∷ xs) x.from x.from each found (refl, closed) in
      omega (arith, ints, whole)

  -- the clause of a conflict holds
  pub conflict_clause : Admissible log t → (steps : List Step) → Conflict log steps → clause_holds log t trees (each_once (filter_map negated_step steps)) ≡ true
  conflict_clause ok steps conflict = elim (cases_Bool (clause_holds log t trees (each_once (filter_map negated_step steps)))) [
    | inl is ↦ is
    | inr fails ↦
        let none = (λ (l : Literal) (has : Contains (filter_map negated_step steps) l).
        fails_at l (stands_once (filter_map negated_step steps) l has) fails) in
        let each = (λ (s : Step) (x : Edge) (has : Contains steps s) (is : edge_of log s ≡ Some x).
        step_holds ok s x is (λ l gives. none l (given_stands negated_step steps s l has gives))) in
        absurd (omega (arith, ints, closed_walk_holds (times log t ok) steps conflict.edges each conflict.found conflict.closed, conflict.negative))
  ]
    where
      fails_at : (l : Literal) → Contains (each_once (filter_map negated_step steps)) l → clause_holds log t trees (each_once (filter_map negated_step steps)) ≡ false → holds log t trees l ≡ false
      fails_at l has fails = elim (cases_Bool (holds log t trees l)) [
        | inl is ↦ let some = any_true (holds log t trees) (each_once (filter_map negated_step steps)) l has is in absurd (cc)
        | inr is ↦ is
      ]
