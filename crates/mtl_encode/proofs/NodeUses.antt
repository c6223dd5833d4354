-- What the rules say of constants, propositions, negations and conjunctions, and of the value sought.
use Rattle.std.proofs.Common.{◌≡◌, ◌∙◌, sym, ap, refl, subst, ℕ, suc, ◌+◌, ◌<◌, Bool, true, false, not, ◌&&◌, ◌||◌, if◌then◌else◌, List, [], ◌∷◌, length, Option, Some, None, Ok, Err, inl, inr, ℤ, pos, ◌-ℤ◌, arith}
use Rattle.std.specs.Prelude.{int_le, int_lt, slice_get}
use Rattle.std.specs.List.{list_any, range_with_len}
use Rattle.std.specs.Ordering.{int_eq}
use Rattle.std.specs.Option.{option_map_or}
use Rattle.std.proofs.lemmas.Bool.{cases_Bool, or_left, not_from_true}
use Rattle.std.proofs.lemmas.Option.{slice_get-get_or}
use Rattle.mt_model.specs.State.{Change}
use Rattle.mt_model.specs.Timing.{time_of}
use Rattle.mt_model.proofs.Members.{Among, any_some}
use Rattle.mt_model.proofs.PositionLemmas.{below}
use Rattle.axiom_rules.specs.declared.fault.RuleFault.TheVariants.{Kind, Range}
use Rattle.axiom_rules.specs.declared.literal.Atom.{Atom}
use Rattle.axiom_rules.specs.declared.literal.Atom.TheVariants.{First, Node, Order}
use Rattle.axiom_rules.specs.declared.part.Part.TheVariants.{Known, Says}
use Rattle.axiom_rules.specs.declared.proposition.PropositionRows.{PropositionRows}
use Rattle.axiom_rules.specs.NodeShapes.{is_constant, operand_in, proposition_in, shape_at, sides_in}
use Rattle.axiom_rules.specs.Parts.{Written, after, not_after, not_same, same}
use Rattle.axiom_rules.specs.Rules.{at_pulses, has_come, is, is_not, is_pulse_row}
use Rattle.axiom_rules.specs.Rules as rule
use Rattle.axiom_rules.specs.Sought.{Sought}
use Rattle.axiom_rules.proofs.BoolLemmas.{apart}
use Rattle.axiom_rules.proofs.ChangeLemmas.{first_passes, is_by, last_of}
use Rattle.axiom_rules.proofs.PartLemmas.{part_holds}
use Rattle.mtl_encode.specs.Exact.{SatisfiesKept}
use Rattle.question.specs.Extremes.{Extremes}
use Rattle.mtl_encode.specs.Needless.{is_needless, is_never_first}
use Rattle.mtl_encode.proofs.ClauseUses.{first_of, is_both, is_negation, is_sense, last_of_1, last_of_2, rest_of}
use Rattle.mtl_encode.proofs.ExtremeUses.{BoundsTimes, is-after, is-not-after}
use Rattle.mtl_encode.proofs.PartUses.{WrittenIsTrue}
use Rattle.mtl_encode.proofs.PulseUses.{IsPair, instant-exact, not-same, pulses-exact}
use Rattle.mtl_encode.proofs.RangeLemmas.{place-of}
use Rattle.mtl_encode.proofs.RuleUses.{after-true, event-true, kind-true, not_after-true, of_event-true, of_events-true, of_node_event-true, of_node_event_change-true, of_node_event_pulse-true, of_nothing-true}
use Rattle.mtl_encode.proofs.StateExact.{FollowsChanges, pulsed-exact}

module _ (s : Sought) (x : Extremes) (v : Atom → Bool) (satisfied : SatisfiesKept s (is_needless x s) v) where
  -- a node that is `true`
  pub constant-exact : (k e : ℕ) → k < length s.trees → e < length s.log.rows → is_constant (shape_at s k) ≡ true → v (Node k e) ≡ true
  constant-exact k e low in_ constant =
      last_of_1 (v (Node k e))
      (subst (λ b. WrittenIsTrue v (if b then Ok (is (Node k e) ∷ []) else Err Kind)) constant (of_node_event-true s (is_needless x s) v satisfied 3 rule.rule_3 refl k e low in_ refl))

  -- a node that is the negation of node a
  pub negation-exact : (k e a : ℕ) → k < length s.trees → e < length s.log.rows → operand_in (shape_at s k) ≡ Some a → v (Node k e) ≡ not (v (Node a e))
  negation-exact k e a low in_ of_a = is_negation (v (Node k e)) (v (Node a e))
      (kind-true s (is_needless x s) v satisfied (operand_in (shape_at s k)) a (λ a. Ok (is_not (Node k e) ∷ is_not (Node a e) ∷ [])) of_a
      (of_node_event-true s (is_needless x s) v satisfied 4 rule.rule_4 refl k e low in_ refl))
      (kind-true s (is_needless x s) v satisfied (operand_in (shape_at s k)) a (λ a. Ok (is (Node k e) ∷ is (Node a e) ∷ [])) of_a
      (of_node_event-true s (is_needless x s) v satisfied 5 rule.rule_5 refl k e low in_ refl))

  -- a node that is the conjunction of nodes a and b
  pub conjunction-exact : (k e a b : ℕ) → k < length s.trees → e < length s.log.rows → sides_in (shape_at s k) ≡ Some (a, b) → v (Node k e) ≡ (v (Node a e) && v (Node b e))
  conjunction-exact k e a b low in_ of_both = is_both (v (Node k e)) (v (Node a e)) (v (Node b e))
      (kind-true s (is_needless x s) v satisfied (sides_in (shape_at s k)) (a, b) (λ sides. Ok (is_not (Node k e) ∷ is (Node sides.0 e) ∷ [])) of_both
      (of_node_event-true s (is_needless x s) v satisfied 6 rule.rule_6 refl k e low in_ refl))
      (kind-true s (is_needless x s) v satisfied (sides_in (shape_at s k)) (a, b) (λ sides. Ok (is_not (Node k e) ∷ is (Node sides.1 e) ∷ [])) of_both
      (of_node_event-true s (is_needless x s) v satisfied 7 rule.rule_7 refl k e low in_ refl))
      (kind-true s (is_needless x s) v satisfied (sides_in (shape_at s k)) (a, b)
      (λ sides. Ok (is (Node k e) ∷ is_not (Node sides.0 e) ∷ is_not (Node sides.1 e) ∷ [])) of_both
      (of_node_event-true s (is_needless x s) v satisfied 8 rule.rule_8 refl k e low in_ refl))

  module _ (t : List ℤ) (agrees : (e f : ℕ) (c : ℤ) → v (Order e f c) ≡ int_le (time_of t e -ℤ time_of t f) c) where
    come-true : (cs : List Change) (place e : ℕ) → part_holds v (has_come cs place e) ≡ option_map_or (is_by t (time_of t e)) (slice_get cs place) false
    come-true cs place e = go (slice_get cs place)
      where
        go : (o : Option Change) → part_holds v (option_map_or (λ c. not_after c.row e) o (Known false)) ≡ option_map_or (is_by t (time_of t e)) o false
        go None = refl
        go (Some c) = not_after-true v s.log t s.trees agrees c.row e

    -- a node that is a proposition that these rows tell of
    module _ (k e : ℕ) (rows : PropositionRows) (low : k < length s.trees) (in_ : e < length s.log.rows) (of_rows : proposition_in (shape_at s k) ≡ Some rows)
        (are : (u : ℕ) → Among rows.pulses u → (u < length s.log.rows) × (is_pulse_row s.log u ≡ true)) where
      abbrev passes : Change → Bool
      passes c = is_by t (time_of t e) c

      abbrev pulsed : Bool
      pulsed = list_any (λ u. int_eq (time_of t u) (time_of t e)) rows.pulses

      abbrev value : Bool
      value = v (Node k e)

      -- a pulse at the event's instant makes it true
      of-pulse : (place u : ℕ) → slice_get rows.pulses place ≡ Some u → int_eq (time_of t u) (time_of t e) ≡ true → (u < length s.log.rows) × (is_pulse_row s.log u ≡ true) → value ≡ true
      of-pulse place u there at row =
          let pair : IsPair s x v satisfied t agrees u e = record { low = row.0; high = in_; pulse = or_left (is_pulse_row s.log u) (is_pulse_row s.log e) row.1 } in
          let at-once : part_holds v (same u e) ≡ true = instant-exact s x v satisfied t agrees u e pair ∙ at in
          last_of_2 (part_holds v (not_same u e)) value
          (subst (λ (o : Option ℕ). WrittenIsTrue v (option_map_or (λ u. Ok (not_same u e ∷ is (Node k e) ∷ [])) o (Err Range))) there
          (kind-true s (is_needless x s) v satisfied (proposition_in (shape_at s k)) rows
          (λ rows. option_map_or (λ u. Ok (not_same u e ∷ is (Node k e) ∷ [])) (slice_get rows.pulses place) (Err Range)) of_rows
          (of_node_event_pulse-true s (is_needless x s) v satisfied 27 rule.rule_27 refl k e place low in_ refl)))
          (not-same v u e ∙ not_from_true (part_holds v (same u e)) at-once)

      on-pulse : pulsed ≡ true → value ≡ true
      on-pulse holds =
          let (u, among, at) = any_some (λ u. int_eq (time_of t u) (time_of t e)) rows.pulses holds in
          let (place, within, stands) = place-of rows.pulses u among in
          of-pulse place u (slice_get-get_or rows.pulses place u within ∙ ap (λ (w : ℕ). Some w) stands) at (are u among)

      -- elsewhere a proposition that is true has been changed
      changed : pulsed ≡ false → value ≡ true → first_passes passes rows.changes ≡ true
      changed off holds = sym (come-true rows.changes 0 e) ∙ first_of (part_holds v (has_come rows.changes 0 e)) (list_any (part_holds v) (at_pulses rows.pulses e))
          (rest_of (not value) _
          (kind-true s (is_needless x s) v satisfied (proposition_in (shape_at s k)) rows
          (λ rows. Ok (is_not (Node k e) ∷ has_come rows.changes 0 e ∷ at_pulses rows.pulses e)) of_rows
          (of_node_event-true s (is_needless x s) v satisfied 1 rule.rule_1 refl k e low in_ refl))
          (not_from_true value holds))
          (pulses-exact s x v satisfied t agrees e in_ rows.pulses are ∙ off)

      none-else : (sets : Bool) → pulsed ≡ false → list_any (part_holds v) (at_pulses (if sets then [] else rows.pulses) e) ≡ false
      none-else true off = refl
      none-else false off = pulses-exact s x v satisfied t agrees e in_ rows.pulses are ∙ off

      abbrev of_change : ℕ → Change → Written
      of_change place c = Ok (after c.row e ∷ has_come rows.changes (place + 1) e ∷ Says (record { atom = Node k e; positive = c.sets }) ∷ at_pulses (if c.sets then [] else rows.pulses) e)

      second : pulsed ≡ false → (place : ℕ) (o : Option Change) (c : Change) → o ≡ Some c
          → WrittenIsTrue v (option_map_or (of_change place) o (Err Range))
          → passes c ≡ true → option_map_or passes (slice_get rows.changes (place + 1)) false ≡ false → value ≡ c.sets
      second off place None c there h begun next = absurd (cc)
      second off place (Some d) c there h begun next =
          let same : d ≡ c = cc in
          subst (λ (x : Change). value ≡ x.sets) same
          (is_sense d.sets value (first_of (if d.sets then value else not value) (list_any (part_holds v) (at_pulses (if d.sets then [] else rows.pulses) e))
          (rest_of (part_holds v (has_come rows.changes (place + 1) e)) _ (rest_of (part_holds v (after d.row e)) _ h
          (after-true v s.log t s.trees agrees d.row e ∙ not_from_true _ (subst (λ (x : Change). passes x ≡ true) (sym same) begun)))
          (come-true rows.changes (place + 1) e ∙ next))
          (none-else d.sets off)))

      follows : pulsed ≡ false → FollowsChanges passes value rows.changes
      follows off place c there begun next =
          let step : place + 1 ≡ suc place = omega arith in
          second off place (slice_get rows.changes place) c there
          (kind-true s (is_needless x s) v satisfied (proposition_in (shape_at s k)) rows
          (λ rows. option_map_or
          (λ c. Ok (after c.row e ∷ has_come rows.changes (place + 1) e ∷ Says (record { atom = Node k e; positive = c.sets }) ∷ at_pulses (if c.sets then [] else rows.pulses) e))
          (slice_get rows.changes place) (Err Range))
          of_rows
          (of_node_event_change-true s (is_needless x s) v satisfied 2 rule.rule_2 refl k e place low in_ refl))
          begun (rw step next)

      pub proposition-exact : value ≡ pulsed || option_map_or (λ c. c.sets) (last_of passes rows.changes) false
      proposition-exact = pulsed-exact passes value pulsed rows.changes on-pulse changed follows

    module _ (bounded : BoundsTimes x t (length s.log.rows)) where
      not-later : (e y : ℕ) → e < length s.log.rows → y < length s.log.rows → v (First e) ≡ true → int_le (time_of t e) (time_of t y) ≡ true
      not-later e y in_ low first = elim (cases_Bool (int_le (pos 0) (x.least e y))) [
        | inl never ↦ is-not-after (time_of t e) (time_of t y) (x.least e y) never (bounded.least e y in_ low)
        | inr may ↦ sym (not_after-true v s.log t s.trees agrees e y)
            ∙ last_of_2 (not (v (First e))) (part_holds v (not_after e y)) (of_events-true s (is_needless x s) v satisfied 9 rule.rule_9 refl e y in_ low may) (not_from_true (v (First e)) first)
      ]

      -- some event is a first one, and no event is earlier
      pub first-exact : (e : ℕ) × (e < length s.log.rows) × (v (First e) ≡ true) × ((y : ℕ) → y < length s.log.rows → int_le (time_of t e) (time_of t y) ≡ true)
      first-exact =
          let (e, in_, first) = event-true s (is_needless x s) v satisfied (λ e. is (First e)) (of_nothing-true s (is_needless x s) v satisfied 11 rule.rule_11 refl refl) in
          (e, in_, first, λ y low. not-later e y in_ low first)

      may-be-first : (e : ℕ) → e < length s.log.rows → ((y : ℕ) → y < length s.log.rows → int_le (time_of t e) (time_of t y) ≡ true) → is_never_first x (length s.log.rows) e ≡ false
      may-be-first e in_ earliest = elim (cases_Bool (is_never_first x (length s.log.rows) e)) [
        | inr fails ↦ fails
        | inl never ↦
            let (y, among, before) = any_some (λ f. int_lt (x.greatest e f) (pos 0)) (range_with_len 0 (length s.log.rows)) never in
            let low = below (length s.log.rows) y among in
            absurd (apart _ (earliest y low) (is-after (time_of t e) (time_of t y) (x.greatest e y) before (bounded.greatest e y in_ low)))
      ]

      -- at a first event the root has the value sought
      pub root-exact : (e : ℕ) → e < length s.log.rows → v (First e) ≡ true → ((y : ℕ) → y < length s.log.rows → int_le (time_of t e) (time_of t y) ≡ true) → v (Node s.root e) ≡ s.value
      root-exact e in_ first earliest = is_sense s.value (v (Node s.root e)) (last_of_2 (not (v (First e))) (if s.value then v (Node s.root e) else not (v (Node s.root e)))
          (of_event-true s (is_needless x s) v satisfied 24 rule.rule_24 refl e in_ (may-be-first e in_ earliest)) (not_from_true (v (First e)) first))
