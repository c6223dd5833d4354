-- The rules: what each takes and what it writes.
use Rattle.std.specs.Prelude.{ℕ, ◌+◌, Bool, false, ◌||◌, nat_lt, if◌then◌else◌, List, [], ◌∷◌, length, map, Option, Some, None, Ok, Err, slice_get, ℤ, pos, neg_ℤ}
use Rattle.std.specs.List.{range_with_len}
use Rattle.std.specs.Option.{option_map_or}
use Rattle.mt_model.specs.declared.tree.Interval.{Interval}
use Rattle.mt_model.specs.Log.{Logged, is_pulse}
use Rattle.mt_model.specs.State.{Change}
use Rattle.formula_arena.specs.declared.direction.Direction.{Direction}
use Rattle.formula_arena.specs.declared.direction.Direction.TheVariants.{Ahead, Behind}
use Rattle.axiom_rules.specs.declared.fault.RuleFault.TheVariants.{NoRule, Range, Kind}
use Rattle.axiom_rules.specs.declared.literal.Atom.{Atom}
use Rattle.axiom_rules.specs.declared.literal.Atom.TheVariants.{Node, First, Wit, Span, Gap}
use Rattle.axiom_rules.specs.declared.part.Part.{Part}
use Rattle.axiom_rules.specs.declared.part.Part.TheVariants.{Says, Known}
use Rattle.axiom_rules.specs.Literals.{no, yes}
use Rattle.axiom_rules.specs.NodeShapes.{is_constant, operand_in, proposition_in, reach_in, shape_at, sides_in}
use Rattle.axiom_rules.specs.Sought.{Sought}
use Rattle.axiom_rules.specs.Parts.{Written, after, not_after, not_order, not_same, order, same}

-- an atom holds, and it does not
abbrev pub is : Atom → Part
is a = Says (yes a)

abbrev pub is_not : Atom → Part
is_not a = Says (no a)

-- a part for each event, the events rising
abbrev pub for_each_event : Sought → (ℕ → Part) → List Part
for_each_event s part = map part (range_with_len 0 (length s.log.rows))

-- what is written of a node of the kind that is asked for
abbrev pub of_kind : {X : Type 0} → Option X → (X → Written) → Written
of_kind None write = Err Kind
of_kind (Some x) write = write x

-- t_e - t_f <= c, where the node looks behind with e and f exchanged
abbrev pub met_order : Direction → ℕ → ℕ → ℤ → Part
met_order Ahead e f c = order e f c
met_order Behind e f c = order f e c

abbrev pub not_met_order : Direction → ℕ → ℕ → ℤ → Part
not_met_order Ahead e f c = not_order e f c
not_met_order Behind e f c = not_order f e c

-- event e is not after event f as the node looks, and it is
abbrev pub not_met_after : Direction → ℕ → ℕ → Part
not_met_after direction e f = met_order direction e f (pos 0)

abbrev pub met_after : Direction → ℕ → ℕ → Part
met_after direction e f = not_met_order direction e f (pos 0)

-- event j is at least the lower bound from event i, and it is not
abbrev pub is_from : Direction → Interval → ℕ → ℕ → Part
is_from direction I i j = met_order direction i j (neg_ℤ (pos I.low))

abbrev pub is_not_from : Direction → Interval → ℕ → ℕ → Part
is_not_from direction I i j = not_met_order direction i j (neg_ℤ (pos I.low))

-- event j is at most the upper bound b from event i, and it is not
abbrev pub is_up_to : Direction → ℕ → ℕ → ℕ → Part
is_up_to direction b i j = met_order direction j i (pos b)

abbrev pub is_not_up_to : Direction → ℕ → ℕ → ℕ → Part
is_not_up_to direction b i j = not_met_order direction j i (pos b)

-- the change of a place has come at event e; left out where there is no such change
abbrev pub has_come : List Change → ℕ → ℕ → Part
has_come changes place e = option_map_or (λ c. not_after c.row e) (slice_get changes place) (Known false)

-- event e is at the instant of a pulse: a part for each of these pulse rows
abbrev pub at_pulses : List ℕ → ℕ → List Part
at_pulses pulses e = map (λ u. same u e) pulses

-- a row is a pulse row, of whatever proposition
abbrev pub is_pulse_row : Logged → ℕ → Bool
is_pulse_row log e = option_map_or (λ r. is_pulse r.act) (slice_get log.rows e) false

-- what is written of two events one of which is a pulse row
abbrev pub of_pulse : Logged → ℕ → ℕ → Written → Written
of_pulse log e x written = if is_pulse_row log e || is_pulse_row log x then written else Err NoRule

module _ (s : Sought) where
  -- a proposition that is true has been changed, or is pulsed
  abbrev pub rule_1 : ℕ → ℕ → Written
  rule_1 k e = of_kind (proposition_in (shape_at s k)) (λ rows. Ok (is_not (Node k e) ∷ has_come rows.changes 0 e ∷ at_pulses rows.pulses e))

  -- from a change on up to the next one, a proposition is what the change makes it; where that clears it, it may be pulsed
  abbrev pub rule_2 : ℕ → ℕ → ℕ → Written
  rule_2 k e place = of_kind (proposition_in (shape_at s k)) (λ rows. option_map_or (λ c. Ok (after c.row e ∷ has_come rows.changes (place + 1) e ∷ Says (record { atom = Node k e; positive = c.sets }) ∷ at_pulses (if c.sets then [] else rows.pulses) e)) (slice_get rows.changes place) (Err Range))

  -- `true` is true
  abbrev pub rule_3 : ℕ → ℕ → Written
  rule_3 k e = if is_constant (shape_at s k) then Ok (is (Node k e) ∷ []) else Err Kind

  -- a negation and its operand aren't both true, ..
  abbrev pub rule_4 : ℕ → ℕ → Written
  rule_4 k e = of_kind (operand_in (shape_at s k)) (λ a. Ok (is_not (Node k e) ∷ is_not (Node a e) ∷ []))

  -- .. and one of them is
  abbrev pub rule_5 : ℕ → ℕ → Written
  rule_5 k e = of_kind (operand_in (shape_at s k)) (λ a. Ok (is (Node k e) ∷ is (Node a e) ∷ []))

  -- where a conjunction is true its left side is, ..
  abbrev pub rule_6 : ℕ → ℕ → Written
  rule_6 k e = of_kind (sides_in (shape_at s k)) (λ sides. Ok (is_not (Node k e) ∷ is (Node sides.0 e) ∷ []))

  -- .. and its right side
  abbrev pub rule_7 : ℕ → ℕ → Written
  rule_7 k e = of_kind (sides_in (shape_at s k)) (λ sides. Ok (is_not (Node k e) ∷ is (Node sides.1 e) ∷ []))

  -- .. and where both are, it is
  abbrev pub rule_8 : ℕ → ℕ → Written
  rule_8 k e = of_kind (sides_in (shape_at s k)) (λ sides. Ok (is (Node k e) ∷ is_not (Node sides.0 e) ∷ is_not (Node sides.1 e) ∷ []))

  -- a first event is not after any
  abbrev pub rule_9 : ℕ → ℕ → Written
  rule_9 e x = Ok (is_not (First e) ∷ not_after e x ∷ [])

  -- an event that is after none is a first one; that it is after itself is known to be false, and is left out
  abbrev pub rule_10 : ℕ → Written
  rule_10 e = Ok (is (First e) ∷ for_each_event s (λ x. after e x))

  -- some event is a first one
  abbrev pub rule_11 : Written
  rule_11 = Ok (for_each_event s (λ e. is (First e)))

  -- a witness is in the interval, ..
  abbrev pub rule_12 : ℕ → ℕ → ℕ → Written
  rule_12 k i j = of_kind (reach_in (shape_at s k)) (λ u. Ok (is_not (Wit k i j) ∷ is_from u.direction u.interval i j ∷ []))

  abbrev pub rule_13 : ℕ → ℕ → ℕ → Written
  rule_13 k i j = of_kind (reach_in (shape_at s k)) (λ u. option_map_or (λ b. Ok (is_not (Wit k i j) ∷ is_up_to u.direction b i j ∷ [])) u.interval.high (Err NoRule))

  -- .. the right side holds there, ..
  abbrev pub rule_14 : ℕ → ℕ → ℕ → Written
  rule_14 k i j = of_kind (reach_in (shape_at s k)) (λ u. Ok (is_not (Wit k i j) ∷ is (Node u.right j) ∷ []))

  -- .. and the left side up to there
  abbrev pub rule_15 : ℕ → ℕ → ℕ → Written
  rule_15 k i j = of_kind (reach_in (shape_at s k)) (λ u. Ok (is_not (Wit k i j) ∷ is (Span k i j) ∷ []))

  -- what is all of this is a witness; an upper bound that is lacking is left out
  abbrev pub rule_16 : ℕ → ℕ → ℕ → Written
  rule_16 k i j = of_kind (reach_in (shape_at s k)) (λ u. Ok (is (Wit k i j) ∷ is_not_from u.direction u.interval i j ∷ option_map_or (λ b. is_not_up_to u.direction b i j) u.interval.high (Known false) ∷ is_not (Node u.right j) ∷ is_not (Span k i j) ∷ []))

  -- where the node is true some event is a witness, ..
  abbrev pub rule_17 : ℕ → ℕ → Written
  rule_17 k i = of_kind (reach_in (shape_at s k)) (λ u. Ok (is_not (Node k i) ∷ for_each_event s (λ j. is (Wit k i j))))

  -- .. and where some event is, the node is true
  abbrev pub rule_18 : ℕ → ℕ → ℕ → Written
  rule_18 k i j = of_kind (reach_in (shape_at s k)) (λ u. Ok (is (Node k i) ∷ is_not (Wit k i j) ∷ []))

  -- over a span the left side holds
  abbrev pub rule_19 : ℕ → ℕ → ℕ → ℕ → Written
  rule_19 k i j m = of_kind (reach_in (shape_at s k)) (λ u. Ok (is_not (Span k i j) ∷ met_after u.direction i m ∷ not_met_after u.direction j m ∷ is (Node u.left m) ∷ []))

  -- where there is no span there is a gap, ..
  abbrev pub rule_20 : ℕ → ℕ → ℕ → Written
  rule_20 k i j = of_kind (reach_in (shape_at s k)) (λ u. Ok (is (Span k i j) ∷ for_each_event s (λ m. is (Gap k i m))))

  -- .. with a span up to there, ..
  abbrev pub rule_21 : ℕ → ℕ → ℕ → ℕ → Written
  rule_21 k i j m = of_kind (reach_in (shape_at s k)) (λ u. Ok (is_not (Gap k i m) ∷ met_after u.direction j m ∷ is (Span k i j) ∷ []))

  -- .. which is from here on, ..
  abbrev pub rule_22 : ℕ → ℕ → ℕ → Written
  rule_22 k i m = of_kind (reach_in (shape_at s k)) (λ u. Ok (is_not (Gap k i m) ∷ not_met_after u.direction i m ∷ []))

  -- .. and at which the left side fails
  abbrev pub rule_23 : ℕ → ℕ → ℕ → Written
  rule_23 k i m = of_kind (reach_in (shape_at s k)) (λ u. Ok (is_not (Gap k i m) ∷ is_not (Node u.left m) ∷ []))

  -- at a first event the root has the value sought
  abbrev pub rule_24 : ℕ → Written
  rule_24 e = Ok (is_not (First e) ∷ Says (record { atom = Node s.root e; positive = s.value }) ∷ [])

  -- of two events at one instant, where one of them is a pulse row, neither is after the other, ..
  abbrev pub rule_25 : ℕ → ℕ → Written
  rule_25 e x = of_pulse s.log e x (Ok (not_same e x ∷ not_after e x ∷ []))

  -- .. and where neither is after the other, they are at one instant
  abbrev pub rule_26 : ℕ → ℕ → Written
  rule_26 e x = if nat_lt e x then of_pulse s.log e x (Ok (same e x ∷ after e x ∷ after x e ∷ [])) else Err Kind

  -- at the instant of a pulse its proposition is true
  abbrev pub rule_27 : ℕ → ℕ → ℕ → Written
  rule_27 k e place = of_kind (proposition_in (shape_at s k)) (λ rows. option_map_or (λ u. Ok (not_same u e ∷ is (Node k e) ∷ [])) (slice_get rows.pulses place) (Err Range))

  -- what is in the interval and has the right side is a witness where the left side is `true`
  abbrev pub rule_28 : ℕ → ℕ → ℕ → Written
  rule_28 k i j = of_kind (reach_in (shape_at s k)) (λ u. if is_constant (shape_at s u.left) then Ok (is (Wit k i j) ∷ is_not_from u.direction u.interval i j ∷ option_map_or (λ b. is_not_up_to u.direction b i j) u.interval.high (Known false) ∷ is_not (Node u.right j) ∷ []) else Err Kind)
