-- Each rule holds, and so each clause does.
use Rattle.std.proofs.Common.{◌≡◌, ◌∙◌, sym, ap, refl, subst, ℕ, ◌+◌, ◌-◌, ◌<◌, Bool, true, false, not, ◌&&◌, ◌||◌, if◌then◌else◌, List, [], ◌∷◌, length, Option, Some, None, Ok, Err, inl, inr, ℤ, pos, arith}
use Rattle.std.specs.Prelude.{◌↔◌, int_le, nat_lt, option_and_then, slice_get, reverse, find, All}
use Rattle.std.specs.List.{list_any, range_with_len}
use Rattle.std.specs.Option.{option_map_or}
use Rattle.std.proofs.lemmas.Int.{ints}
use Rattle.std.proofs.lemmas.Bool.{and_parts, cases_Bool, or_left, or_right, not-false, not_from_false}
use Rattle.std.proofs.lemmas.Bool.Decides.{Decides-int_eq}
use Rattle.std.specs.Ordering.{int_eq}
use Rattle.std.proofs.lemmas.Option.{get_or_from_slice_get, slice_get_read}
use Rattle.mt_model.specs.declared.tree.Interval.{Interval}
use Rattle.mt_model.specs.Before.{BeforeIsNotLater}
use Rattle.mt_model.specs.Form.{Form, True, False, Prop, Not, And, Or, Implies, Until, Since, Eventually, Always, Once, Historically}
use Rattle.mt_model.specs.Frame.{Frame, span, witness}
use Rattle.mt_model.specs.Log.{Logged, IsLog}
use Rattle.mt_model.specs.State.{Change, changes_of, host_named, pulses_of}
use Rattle.mt_model.specs.Timing.{Admissible, time_of}
use Rattle.mt_model.specs.Truth.{rows_in, truth}
use Rattle.mt_model.proofs.Members.{all_each, any_some, each_all, some_any}
use Rattle.mt_model.proofs.PositionLemmas.{below, place-of_first, within_has}
use Rattle.formula_arena.specs.Laws.{CoresAreCores, NodesAreSubtrees, TruthOfCore}
use Rattle.formula_arena.specs.Nodes.{StandsBefore, nodes_of, tree_at}
use Rattle.formula_arena.specs.Subtrees.{children_of, same_form}
use Rattle.formula_arena.specs.Directions.{is_near}
use Rattle.formula_arena.specs.declared.direction.Direction.{Direction}
use Rattle.formula_arena.specs.declared.direction.Direction.TheVariants.{Ahead, Behind}
use Rattle.axiom_rules.specs.declared.fault.RuleFault.TheVariants.{NoRule, Range, Kind}
use Rattle.axiom_rules.specs.declared.literal.Atom.{Atom}
use Rattle.axiom_rules.specs.declared.literal.Atom.TheVariants.{First, Gap, Node, Span, Wit}
use Rattle.axiom_rules.specs.declared.literal.Literal.{Literal}
use Rattle.axiom_rules.specs.declared.part.Part.{Part}
use Rattle.axiom_rules.specs.declared.part.Part.TheVariants.{Says, Known}
use Rattle.axiom_rules.specs.declared.reach.Reach.{Reach}
use Rattle.axiom_rules.specs.declared.rule.Rule.{Rule}
use Rattle.axiom_rules.specs.Clauses.{Row, clause_of, of_event, of_events, of_node_event, of_node_event_change, of_node_event_pulse, of_node_events, of_node_three_events, row_of}
use Rattle.axiom_rules.specs.Holds.{clause_holds, gap, means}
use Rattle.axiom_rules.specs.Laws.{RulesHold}
use Rattle.axiom_rules.specs.Parts.{Written, after, not_after}
use Rattle.axiom_rules.specs.Parts as part
use Rattle.axiom_rules.specs.Rules as rule
use Rattle.axiom_rules.specs.Shapes.{reach_over}
use Rattle.axiom_rules.specs.Sought.{Sought}
use Rattle.axiom_rules.specs.NodeShapes.{is_constant, operand_in, proposition_in, reach_in, sides_in, number_of, shape_of, shape_at}
use Rattle.axiom_rules.specs.Rules.{at_pulses, of_kind, of_pulse, for_each_event, has_come, is, is_not, is_not_up_to, is_pulse_row}
use Rattle.axiom_rules.proofs.BoolLemmas.{any_1, any_2, any_3, any_4, any_5, any_rest, apart, failing}
use Rattle.axiom_rules.proofs.ChangeLemmas.{Falls, changes-fall, first-none, first_passes, is_by, last-at}
use Rattle.axiom_rules.proofs.FrameRules.{gap_parts, gap_without_span, reached, reaches_from, span_at, span_from, span_to_gap, witness_from, witness_parts}
use Rattle.axiom_rules.proofs.MeaningLemmas.{F, at_row, from, is_from-says, is_not_from-says, is_not_up_to-says, is_up_to-says, means-gap, means-node, means-reaches, means-span, means-wit, met_after-says, near-ahead, near-parts, not_met_after-says, row_at, told, up_to}
use Rattle.axiom_rules.proofs.Orders.{first_of, order-met, order-rows}
use Rattle.axiom_rules.proofs.PartLemmas.{any-map, clause_from_parts, not_after_is, not_order-says, not_same-says, order-says, part_holds, same-says}
use Rattle.axiom_rules.proofs.PulseLemmas.{any-agrees, passes-at}
use Rattle.axiom_rules.proofs.RowCases.{OfRow, row-case, row-of-change, row-of-event, row-of-events, row-of-node, row-of-nothing, row-of-pulse, row-of-three, row-of-two, written-by}
use Rattle.axiom_rules.proofs.ShapeLemmas.{index_or-there}
use Rattle.axiom_rules.proofs.TimingLemmas.{times-rise}
use Rattle.axiom_rules.proofs.TreeLemmas.{child-number}

-- clauses of a value and those that it is made of
negation-not_both : (x y : Bool) → x ≡ not y → (not x || (not y || false)) ≡ true
negation-not_both x true is = rw is refl
negation-not_both x false is = rw is refl

negation-one : (x y : Bool) → x ≡ not y → (x || (y || false)) ≡ true
negation-one x true is = rw is refl
negation-one x false is = rw is refl

and-left : (x y z : Bool) → x ≡ (y && z) → (not x || (y || false)) ≡ true
and-left x true z is = any_2 (not x) true (λ no. refl)
and-left x false z is = rw is refl

and-right : (x y z : Bool) → x ≡ (y && z) → (not x || (z || false)) ≡ true
and-right x true true is = any_2 (not x) true (λ no. refl)
and-right x true false is = rw is refl
and-right x false z is = rw is refl

and-both : (x y z : Bool) → x ≡ (y && z) → (x || (not y || (not z || false))) ≡ true
and-both x true true is = rw is refl
and-both x true false is = any_3 x false true (λ a b. refl)
and-both x false z is = any_3 x true (not z) (λ a b. absurd (cc))

-- a literal of a sense holds where its atom has that value
pub of-sense : (sense value : Bool) → value ≡ sense → (if sense then value else not value) ≡ true
of-sense true value is = is
of-sense false value is = rw is refl

-- what is true without a change is pulsed
only-pulsed : (value pulsed changed : Bool) → value ≡ true → value ≡ (pulsed || changed) → changed ≡ false → pulsed ≡ true
only-pulsed value true changed is state none = refl
only-pulsed value false changed is state none = absurd (apart value is (state ∙ none))

-- of two times that are equal neither is after the other, and of two that aren't one is
equal-le : (x y : ℤ) → int_eq x y ≡ true → int_le x y ≡ true
equal-le x y is = let same : x ≡ y = (Decides-int_eq x y).0 is in rw same (itself y)
  where
    itself : (y : ℤ) → int_le y y ≡ true
    itself y = grind (arith, ints)

apart-times : (x y : ℤ) → int_eq x y ≡ false → int_le x y ≡ true → int_le y x ≡ false
apart-times x y differ le = elim (cases_Bool (int_le y x)) [
  | inl ge ↦ let same : x ≡ y = omega (arith, ints) in absurd (apart (int_eq x y) ((Decides-int_eq x y).1 same) differ)
  | inr fails ↦ fails
]

module _ (log : Logged) (t : List ℤ) (trees : List Form) (root : ℕ) (value : Bool) where
  abbrev s : Sought
  s = record { log = log; trees = trees; root = root; value = value }

  abbrev M : Atom → Bool
  M = means log t trees

  -- what is written holds
  abbrev Right : Written → Type 0
  Right (Ok parts) = list_any (part_holds M) parts ≡ true
  Right (Err fault) = Unit {0}

  module _ (count : length t ≡ length log.rows) (same : (f g : Form) → (same_form f g ≡ true) ↔ (f ≡ g)) (children_first : (k : ℕ) → k < length trees → All (StandsBefore trees k) (children_of (tree_at trees k))) where
    shape-there : (k : ℕ) → k < length trees → shape_of log trees (tree_at trees k) ≡ shape_at s k
    shape-there k low = sym (ap (option_and_then (shape_of log trees)) (slice_get_read trees (length trees) k (tree_at trees k) refl low (index_or-there trees k True low)))

    -- a node whose shape is that of `true` is it
    constant-tree : (k : ℕ) → is_constant (shape_at s k) ≡ true → tree_at trees k ≡ True
    constant-tree k is = go (slice_get trees k) refl is
      where
        tree : (g : Form) → is_constant (shape_of log trees g) ≡ true → g ≡ True
        tree True is = refl
        tree False is = absurd (cc)
        tree (Prop host name) is = absurd (cc)
        tree (Not g) is = absurd (cc)
        tree (And g h) is = absurd (cc)
        tree (Or g h) is = absurd (cc)
        tree (Implies g h) is = absurd (cc)
        tree (Until I g h) is = absurd (cc)
        tree (Since I g h) is = absurd (cc)
        tree (Eventually I g) is = absurd (cc)
        tree (Always I g) is = absurd (cc)
        tree (Once I g) is = absurd (cc)
        tree (Historically I g) is = absurd (cc)

        go : (o : Option Form) → slice_get trees k ≡ o → is_constant (option_and_then (shape_of log trees) o) ≡ true → tree_at trees k ≡ True
        go None at is = absurd (cc)
        go (Some g) at is = get_or_from_slice_get trees k g True at ∙ tree g is

    by_not : (k : ℕ) (write : ℕ → Written) → k < length trees
        → ((f : Form) (a : ℕ) → tree_at trees k ≡ Not f → tree_at trees a ≡ f → Right (write a))
        → Right (of_kind (operand_in (shape_at s k)) write)
    by_not k write low h = subst (λ o. Right (of_kind (operand_in o) write)) (shape-there k low) (go (tree_at trees k) refl)
      where
        go : (tree : Form) → tree_at trees k ≡ tree → Right (of_kind (operand_in (shape_of log trees tree)) write)
        go (Not f) at = h f (number_of trees f) at (child-number same trees children_first k 0 (Not f) f low at (omega arith) refl)
        go _ at = tt

    by_and : (k : ℕ) (write : ℕ × ℕ → Written) → k < length trees
        → ((f g : Form) (a b : ℕ) → tree_at trees k ≡ And f g → tree_at trees a ≡ f → tree_at trees b ≡ g → Right (write (a, b)))
        → Right (of_kind (sides_in (shape_at s k)) write)
    by_and k write low h = subst (λ o. Right (of_kind (sides_in o) write)) (shape-there k low) (go (tree_at trees k) refl)
      where
        go : (tree : Form) → tree_at trees k ≡ tree → Right (of_kind (sides_in (shape_of log trees tree)) write)
        go (And f g) at =
            h f g (number_of trees f) (number_of trees g) at
            (child-number same trees children_first k 0 (And f g) f low at (omega arith) refl)
            (child-number same trees children_first k 1 (And f g) g low at (omega arith) refl)
        go _ at = tt

    by_reach : (k : ℕ) (write : Reach → Written) → k < length trees
        → ((direction : Direction) (I : Interval) (f g : Form) (l r : ℕ) → tree_at trees k ≡ reach_over direction I f g
        → tree_at trees l ≡ f → tree_at trees r ≡ g
        → Right (write (record { direction = direction; interval = I; left = l; right = r })))
        → Right (of_kind (reach_in (shape_at s k)) write)
    by_reach k write low h = subst (λ o. Right (of_kind (reach_in o) write)) (shape-there k low) (go (tree_at trees k) refl)
      where
        go : (tree : Form) → tree_at trees k ≡ tree → Right (of_kind (reach_in (shape_of log trees tree)) write)
        go (Until I f g) at =
            h Ahead I f g (number_of trees f) (number_of trees g) at
            (child-number same trees children_first k 0 (Until I f g) f low at (omega arith) refl)
            (child-number same trees children_first k 1 (Until I f g) g low at (omega arith) refl)
        go (Since I f g) at =
            h Behind I f g (number_of trees f) (number_of trees g) at
            (child-number same trees children_first k 0 (Since I f g) f low at (omega arith) refl)
            (child-number same trees children_first k 1 (Since I f g) g low at (omega arith) refl)
        go _ at = tt

    -- a part for each event holds where it does for one
    some-event : (part : ℕ → Part) (e : ℕ) → e < length t → part_holds M (part e) ≡ true → list_any (part_holds M) (for_each_event s part) ≡ true
    some-event part e low h =
        any-map (part_holds M) part (range_with_len 0 (length log.rows))
        ∙ some_any (λ x. part_holds M (part x)) (range_with_len 0 (length log.rows)) e
        (within_has (length log.rows) e (omega (arith, low, count))) h

    node-is : (k e : ℕ) (f : Form) → e < length t → tree_at trees k ≡ f → M (Node k e) ≡ told log t trees f e
    node-is k e f low at = means-node log t trees k e low ∙ ap (λ tree. told log t trees tree e) at

    right_3 : (k e : ℕ) → k < length trees → e < length t → Right (rule.rule_3 s k e)
    right_3 k e low in_ = subst (λ o. Right (if is_constant o then Ok (is (Node k e) ∷ []) else Err Kind)) (shape-there k low) (go (tree_at trees k) refl)
      where
        go : (tree : Form) → tree_at trees k ≡ tree → Right (if is_constant (shape_of log trees tree) then Ok (is (Node k e) ∷ []) else Err Kind)
        go True at = any_1 (M (Node k e)) (node-is k e True in_ at)
        go _ at = tt

    right_4 : (k e : ℕ) → k < length trees → e < length t → Right (rule.rule_4 s k e)
    right_4 k e low in_ =
        by_not k (λ a. Ok (is_not (Node k e) ∷ is_not (Node a e) ∷ [])) low
        (λ f a at child. negation-not_both (M (Node k e)) (M (Node a e))
        (node-is k e (Not f) in_ at ∙ ap not (sym (node-is a e f in_ child))))

    right_5 : (k e : ℕ) → k < length trees → e < length t → Right (rule.rule_5 s k e)
    right_5 k e low in_ =
        by_not k (λ a. Ok (is (Node k e) ∷ is (Node a e) ∷ [])) low
        (λ f a at child. negation-one (M (Node k e)) (M (Node a e)) (node-is k e (Not f) in_ at ∙ ap not (sym (node-is a e f in_ child))))

    and-is : (k e a b : ℕ) (f g : Form) → e < length t → tree_at trees k ≡ And f g → tree_at trees a ≡ f → tree_at trees b ≡ g → M (Node k e) ≡ (M (Node a e) && M (Node b e))
    and-is k e a b f g in_ at left right =
        node-is k e (And f g) in_ at ∙ (ap (λ x. x && told log t trees g e) (sym (node-is a e f in_ left))
        ∙ ap (λ y. M (Node a e) && y) (sym (node-is b e g in_ right)))

    right_6 : (k e : ℕ) → k < length trees → e < length t → Right (rule.rule_6 s k e)
    right_6 k e low in_ =
        by_and k (λ sides. Ok (is_not (Node k e) ∷ is (Node sides.0 e) ∷ [])) low
        (λ f g a b at left right. and-left (M (Node k e)) (M (Node a e)) (M (Node b e)) (and-is k e a b f g in_ at left right))

    right_7 : (k e : ℕ) → k < length trees → e < length t → Right (rule.rule_7 s k e)
    right_7 k e low in_ =
        by_and k (λ sides. Ok (is_not (Node k e) ∷ is (Node sides.1 e) ∷ [])) low
        (λ f g a b at left right. and-right (M (Node k e)) (M (Node a e)) (M (Node b e)) (and-is k e a b f g in_ at left right))

    right_8 : (k e : ℕ) → k < length trees → e < length t → Right (rule.rule_8 s k e)
    right_8 k e low in_ =
        by_and k (λ sides. Ok (is (Node k e) ∷ is_not (Node sides.0 e) ∷ is_not (Node sides.1 e) ∷ [])) low
        (λ f g a b at left right. and-both (M (Node k e)) (M (Node a e)) (M (Node b e)) (and-is k e a b f g in_ at left right))

    not_after-says : (e f : ℕ) → part_holds M (not_after e f) ≡ int_le (time_of t e) (time_of t f)
    not_after-says e f = order-says M (time_of t) (λ e f c. refl) e f (pos 0) ∙ not_after_is (time_of t e) (time_of t f)

    after-says : (e f : ℕ) → part_holds M (after e f) ≡ not (int_le (time_of t e) (time_of t f))
    after-says e f = not_order-says M (time_of t) (λ e f c. refl) e f (pos 0) ∙ ap not (not_after_is (time_of t e) (time_of t f))

    first-at : (e x : ℕ) → M (First e) ≡ true → x < length t → int_le (time_of t e) (time_of t x) ≡ true
    first-at e x first low = all_each (λ x. int_le (time_of t e) (time_of t x)) (range_with_len 0 (length t)) x first (within_has (length t) x low)

    right_9 : (e x : ℕ) → e < length t → x < length t → Right (rule.rule_9 s e x)
    right_9 e x in_ low = any_2 _ _ (λ no. not_after-says e x ∙ first-at e x (not-false _ no) low)

    right_10 : (e : ℕ) → e < length t → Right (rule.rule_10 s e)
    right_10 e in_ = any_rest _ _ (λ no.
        let (x, there, fails) = failing (λ x. int_le (time_of t e) (time_of t x)) (range_with_len 0 (length t)) no in
        some-event (λ x. after e x) x (below (length t) x there) (after-says e x ∙ not_from_false _ fails))

    right_11 : 0 < length t → Right (rule.rule_11 s)
    right_11 some =
        let (e, first) = first_of (rows_in t) (order-rows t) (λ x. true) (range_with_len 0 (length t)) 0 (within_has (length t) 0 some) refl in
        some-event (λ e. is (First e)) e (below (length t) e first.among) (each_all (λ x. int_le (time_of t e) (time_of t x)) (range_with_len 0 (length t)) (λ x in_. first.first x in_ refl))

    -- of an until or since node
    module _ (k : ℕ) (low : k < length trees) where
      module _ (direction : Direction) (I : Interval) (f g : Form) (l r : ℕ) (at : tree_at trees k ≡ reach_over direction I f g) (left : tree_at trees l ≡ f) (right : tree_at trees r ≡ g) where
        abbrev L : ℕ → Bool
        L e = told log t trees f e

        abbrev R : ℕ → Bool
        R e = told log t trees g e

        abbrev near : ℕ → ℕ → Bool
        near = is_near direction (rows_in t) I

        abbrev O : Frame ℕ
        O = F log t trees direction

        is-wit : (i j : ℕ) → i < length t → j < length t → M (Wit k i j) ≡ witness O near L R i j
        is-wit i j a b = means-wit log t trees k direction I f g at i j a b

        is-span : (i j : ℕ) → i < length t → j < length t → M (Span k i j) ≡ span O L i j
        is-span i j a b = means-span log t trees k direction I f g at i j a b

        is-gap : (i m : ℕ) → i < length t → m < length t → M (Gap k i m) ≡ gap O L i m
        is-gap i m a b = means-gap log t trees k direction I f g at i m a b

        wit-parts : (i j : ℕ) → i < length t → j < length t → M (Wit k i j) ≡ true → (near i j ≡ true) × (R j ≡ true) × (span O L i j ≡ true)
        wit-parts i j a b h = witness_parts O near L R i j (sym (is-wit i j a b) ∙ h)

        the-gap : (i m : ℕ) → i < length t → m < length t → M (Gap k i m) ≡ true → gap O L i m ≡ true
        the-gap i m a b h = sym (is-gap i m a b) ∙ h

        parts_12 : (i j : ℕ) → i < length t → j < length t → list_any (part_holds M) (is_not (Wit k i j) ∷ rule.is_from direction I i j ∷ []) ≡ true
        parts_12 i j a b = any_2 _ _ (λ no.
            let near_it = sym (near-parts log t trees direction I i j) ∙ (wit-parts i j a b (not-false _ no)).0 in
            is_from-says log t trees direction I i j ∙ (and_parts (from log t trees direction I i j) (up_to log t trees direction I.high i j) near_it).0)

        parts_13 : (i j : ℕ) → i < length t → j < length t → (high : Option ℕ) → I.high ≡ high
            → Right (option_map_or (λ b. Ok (is_not (Wit k i j) ∷ rule.is_up_to direction b i j ∷ [])) high (Err NoRule))
        parts_13 i j a b None none = tt
        parts_13 i j a b (Some bound) some = any_2 _ _ (λ no.
            let near_it = sym (near-parts log t trees direction I i j) ∙ (wit-parts i j a b (not-false _ no)).0 in
            let far : up_to log t trees direction I.high i j ≡ true = (and_parts (from log t trees direction I i j) (up_to log t trees direction I.high i j) near_it).1 in
            is_up_to-says log t trees direction bound i j ∙ (rw some at far))

        parts_14 : (i j : ℕ) → i < length t → j < length t → list_any (part_holds M) (is_not (Wit k i j) ∷ is (Node r j) ∷ []) ≡ true
        parts_14 i j a b = any_2 _ _ (λ no. node-is r j g b right ∙ (wit-parts i j a b (not-false _ no)).1)

        parts_15 : (i j : ℕ) → i < length t → j < length t → list_any (part_holds M) (is_not (Wit k i j) ∷ is (Span k i j) ∷ []) ≡ true
        parts_15 i j a b = any_2 _ _ (λ no. is-span i j a b ∙ (wit-parts i j a b (not-false _ no)).2)

        far_part : (i j : ℕ) (high : Option ℕ) → part_holds M (option_map_or (λ b. is_not_up_to direction b i j) high (Known false)) ≡ false → up_to log t trees direction high i j ≡ true
        far_part i j None fails = refl
        far_part i j (Some bound) fails = not-false _ (sym (is_not_up_to-says log t trees direction bound i j) ∙ fails)

        parts_16 : (i j : ℕ) → i < length t → j < length t
            → list_any (part_holds M) (is (Wit k i j) ∷ rule.is_not_from direction I i j
            ∷ option_map_or (λ b. is_not_up_to direction b i j) I.high (Known false) ∷ is_not (Node r j) ∷ is_not (Span k i j) ∷ [])
            ≡ true
        parts_16 i j a b = any_5 _ _ _ _ _ (λ none low_ok high_ok right_ok. elim (cases_Bool (M (Span k i j))) [
          | inr fails ↦ not_from_false _ fails
          | inl spans ↦
              let from_it : from log t trees direction I i j ≡ true = not-false _ (sym (is_not_from-says log t trees direction I i j) ∙ low_ok) in
              let far_it = far_part i j I.high high_ok in
              let near_it : near i j ≡ true = near-parts log t trees direction I i j ∙ (rw (from_it, far_it) refl) in
              let there : R j ≡ true = sym (node-is r j g b right) ∙ not-false _ right_ok in
              let wit = is-wit i j a b ∙ witness_from O near L R i j near_it there (sym (is-span i j a b) ∙ spans) in
              absurd (apart (M (Wit k i j)) wit none)
        ])

        parts_28 : (i j : ℕ) → i < length t → j < length t → (constant : Bool) → is_constant (shape_at s l) ≡ constant
            → Right (if constant then Ok (is (Wit k i j) ∷ rule.is_not_from direction I i j
            ∷ option_map_or (λ b. is_not_up_to direction b i j) I.high (Known false) ∷ is_not (Node r j) ∷ []) else Err Kind)
        parts_28 i j a b false is = tt
        parts_28 i j a b true is = any_4 _ _ _ _ (λ none low_ok high_ok. elim (cases_Bool (M (Node r j))) [
          | inr fails ↦ not_from_false _ fails
          | inl holds ↦
              let from_it : from log t trees direction I i j ≡ true = not-false _ (sym (is_not_from-says log t trees direction I i j) ∙ low_ok) in
              let far_it = far_part i j I.high high_ok in
              let near_it : near i j ≡ true = near-parts log t trees direction I i j ∙ (rw (from_it, far_it) refl) in
              let there : R j ≡ true = sym (node-is r j g b right) ∙ holds in
              let constant : f ≡ True = sym left ∙ constant-tree l is in
              let spans : span O L i j ≡ true = span_from O L i j (λ m c begun before. subst (λ x. told log t trees x m ≡ true) (sym constant) refl) in
              let wit = is-wit i j a b ∙ witness_from O near L R i j near_it there spans in
              absurd (apart (M (Wit k i j)) wit none)
        ])

        parts_17 : (i : ℕ) → i < length t → list_any (part_holds M) (is_not (Node k i) ∷ for_each_event s (λ j. is (Wit k i j))) ≡ true
        parts_17 i a = any_rest _ _ (λ no.
            let reaching = sym (means-reaches log t trees k direction I f g at i a) ∙ not-false _ no in
            let (j, there, wit) = any_some (λ y. witness O near L R i y) O.points (reached O near L R i reaching) in
            let b = row_at log t trees direction j there in
            some-event (λ j. is (Wit k i j)) j b (is-wit i j a b ∙ wit))

        parts_18 : (i j : ℕ) → i < length t → j < length t → list_any (part_holds M) (is (Node k i) ∷ is_not (Wit k i j) ∷ []) ≡ true
        parts_18 i j a b = any_2 _ _ (λ no. elim (cases_Bool (M (Wit k i j))) [
          | inr none ↦ not_from_false _ none
          | inl wit ↦
              let ahead = near-ahead log t trees direction I i j (wit-parts i j a b wit).0 in
              let reaching = means-reaches log t trees k direction I f g at i a ∙ reaches_from O near L R i j (at_row log t trees direction j b) ahead (sym (is-wit i j a b) ∙ wit) in
              absurd (apart (M (Node k i)) reaching no)
        ])

        parts_19 : (i j m : ℕ) → i < length t → j < length t → m < length t
            → list_any (part_holds M) (is_not (Span k i j) ∷ rule.met_after direction i m ∷ rule.not_met_after direction j m ∷ is (Node l m) ∷ []) ≡ true
        parts_19 i j m a b c = any_4 _ _ _ _ (λ no early late.
            let spans = sym (is-span i j a b) ∙ not-false _ no in
            let begun : O.not_after i m ≡ true = not-false _ (sym (met_after-says log t trees direction i m) ∙ early) in
            let before : O.not_after j m ≡ false = sym (not_met_after-says log t trees direction j m) ∙ late in
            node-is l m f c left ∙ span_at O L i j m spans (at_row log t trees direction m c) begun before)

        parts_20 : (i j : ℕ) → i < length t → j < length t → list_any (part_holds M) (is (Span k i j) ∷ for_each_event s (λ m. is (Gap k i m))) ≡ true
        parts_20 i j a b = any_rest _ _ (λ no.
            let (m, there, broken) = any_some (λ z. gap O L i z) O.points (gap_without_span O L (order-met direction t) i j (sym (is-span i j a b) ∙ no)) in
            let c = row_at log t trees direction m there in
            some-event (λ m. is (Gap k i m)) m c (is-gap i m a c ∙ broken))

        parts_21 : (i j m : ℕ) → i < length t → j < length t → m < length t → list_any (part_holds M) (is_not (Gap k i m) ∷ rule.met_after direction j m ∷ is (Span k i j) ∷ []) ≡ true
        parts_21 i j m a b c = any_3 _ _ _ (λ no early.
            let up : O.not_after j m ≡ true = not-false _ (sym (met_after-says log t trees direction j m) ∙ early) in
            is-span i j a b ∙ span_to_gap O L (order-met direction t) i j m (the-gap i m a c (not-false _ no)) up)

        parts_22 : (i m : ℕ) → i < length t → m < length t → list_any (part_holds M) (is_not (Gap k i m) ∷ rule.not_met_after direction i m ∷ []) ≡ true
        parts_22 i m a c = any_2 _ _ (λ no. not_met_after-says log t trees direction i m ∙ (gap_parts O L i m (the-gap i m a c (not-false _ no))).0)

        parts_23 : (i m : ℕ) → i < length t → m < length t → list_any (part_holds M) (is_not (Gap k i m) ∷ is_not (Node l m) ∷ []) ≡ true
        parts_23 i m a c = any_2 _ _ (λ no. not_from_false _ (node-is l m f c left ∙ (gap_parts O L i m (the-gap i m a c (not-false _ no))).1))

    right_12 : (k i j : ℕ) → k < length trees → i < length t → j < length t → Right (rule.rule_12 s k i j)
    right_12 k i j low a b =
        by_reach k (λ u. Ok (is_not (Wit k i j) ∷ rule.is_from u.direction u.interval i j ∷ [])) low
        (λ direction I f g l r at left right. parts_12 k low direction I f g l r at left right i j a b)

    right_13 : (k i j : ℕ) → k < length trees → i < length t → j < length t → Right (rule.rule_13 s k i j)
    right_13 k i j low a b =
        by_reach k (λ u. option_map_or (λ b. Ok (is_not (Wit k i j) ∷ rule.is_up_to u.direction b i j ∷ [])) u.interval.high (Err NoRule))
        low (λ direction I f g l r at left right. parts_13 k low direction I f g l r at left right i j a b I.high refl)

    right_14 : (k i j : ℕ) → k < length trees → i < length t → j < length t → Right (rule.rule_14 s k i j)
    right_14 k i j low a b = by_reach k (λ u. Ok (is_not (Wit k i j) ∷ is (Node u.right j) ∷ [])) low (λ direction I f g l r at left right. parts_14 k low direction I f g l r at left right i j a b)

    right_15 : (k i j : ℕ) → k < length trees → i < length t → j < length t → Right (rule.rule_15 s k i j)
    right_15 k i j low a b = by_reach k (λ u. Ok (is_not (Wit k i j) ∷ is (Span k i j) ∷ [])) low (λ direction I f g l r at left right. parts_15 k low direction I f g l r at left right i j a b)

    right_16 : (k i j : ℕ) → k < length trees → i < length t → j < length t → Right (rule.rule_16 s k i j)
    right_16 k i j low a b =
        by_reach k (λ u. Ok (is (Wit k i j) ∷ rule.is_not_from u.direction u.interval i j
        ∷ option_map_or (λ b. is_not_up_to u.direction b i j) u.interval.high (Known false) ∷ is_not (Node u.right j)
        ∷ is_not (Span k i j) ∷ [])) low (λ direction I f g l r at left right. parts_16 k low direction I f g l r at left right i j a b)

    right_28 : (k i j : ℕ) → k < length trees → i < length t → j < length t → Right (rule.rule_28 s k i j)
    right_28 k i j low a b =
        by_reach k (λ u. if is_constant (shape_at s u.left) then Ok
        (is (Wit k i j) ∷ rule.is_not_from u.direction u.interval i j
        ∷ option_map_or (λ b. is_not_up_to u.direction b i j) u.interval.high (Known false) ∷ is_not (Node u.right j) ∷ []) else Err
        Kind) low
        (λ direction I f g l r at left right. parts_28 k low direction I f g l r at left right i j a b (is_constant (shape_at s l)) refl)

    right_17 : (k i : ℕ) → k < length trees → i < length t → Right (rule.rule_17 s k i)
    right_17 k i low a =
        by_reach k (λ u. Ok (is_not (Node k i) ∷ for_each_event s (λ j. is (Wit k i j)))) low
        (λ direction I f g l r at left right. parts_17 k low direction I f g l r at left right i a)

    right_18 : (k i j : ℕ) → k < length trees → i < length t → j < length t → Right (rule.rule_18 s k i j)
    right_18 k i j low a b = by_reach k (λ u. Ok (is (Node k i) ∷ is_not (Wit k i j) ∷ [])) low (λ direction I f g l r at left right. parts_18 k low direction I f g l r at left right i j a b)

    right_19 : (k i j m : ℕ) → k < length trees → i < length t → j < length t → m < length t → Right (rule.rule_19 s k i j m)
    right_19 k i j m low a b c =
        by_reach k (λ u. Ok (is_not (Span k i j) ∷ rule.met_after u.direction i m ∷ rule.not_met_after u.direction j m ∷ is (Node u.left m)
        ∷ [])) low (λ direction I f g l r at left right. parts_19 k low direction I f g l r at left right i j m a b c)

    right_20 : (k i j : ℕ) → k < length trees → i < length t → j < length t → Right (rule.rule_20 s k i j)
    right_20 k i j low a b =
        by_reach k (λ u. Ok (is (Span k i j) ∷ for_each_event s (λ m. is (Gap k i m)))) low
        (λ direction I f g l r at left right. parts_20 k low direction I f g l r at left right i j a b)

    right_21 : (k i j m : ℕ) → k < length trees → i < length t → j < length t → m < length t → Right (rule.rule_21 s k i j m)
    right_21 k i j m low a b c =
        by_reach k (λ u. Ok (is_not (Gap k i m) ∷ rule.met_after u.direction j m ∷ is (Span k i j) ∷ [])) low
        (λ direction I f g l r at left right. parts_21 k low direction I f g l r at left right i j m a b c)

    right_22 : (k i m : ℕ) → k < length trees → i < length t → m < length t → Right (rule.rule_22 s k i m)
    right_22 k i m low a c =
        by_reach k (λ u. Ok (is_not (Gap k i m) ∷ rule.not_met_after u.direction i m ∷ [])) low
        (λ direction I f g l r at left right. parts_22 k low direction I f g l r at left right i m a c)

    right_23 : (k i m : ℕ) → k < length trees → i < length t → m < length t → Right (rule.rule_23 s k i m)
    right_23 k i m low a c = by_reach k (λ u. Ok (is_not (Gap k i m) ∷ is_not (Node u.left m) ∷ [])) low (λ direction I f g l r at left right. parts_23 k low direction I f g l r at left right i m a c)

    same-at : (e x : ℕ) → part_holds M (part.same e x) ≡ int_eq (time_of t e) (time_of t x)
    same-at e x = same-says M (time_of t) (λ e x. refl) e x

    not_same-at : (e x : ℕ) → part_holds M (part.not_same e x) ≡ not (int_eq (time_of t e) (time_of t x))
    not_same-at e x = not_same-says M (time_of t) (λ e x. refl) e x

    of_pulse-right : (pulse : Bool) (parts : List Part) → list_any (part_holds M) parts ≡ true → Right (if pulse then Ok parts else Err NoRule)
    of_pulse-right true parts h = h
    of_pulse-right false parts h = tt

    right_25 : (e x : ℕ) → e < length t → x < length t → Right (rule.rule_25 s e x)
    right_25 e x a b = of_pulse-right (is_pulse_row log e || is_pulse_row log x) (part.not_same e x ∷ not_after e x ∷ [])
        (any_2 _ _ (λ no. not_after-says e x ∙ equal-le (time_of t e) (time_of t x) (not-false _ (sym (not_same-at e x) ∙ no))))

    right_26 : (e x : ℕ) → e < length t → x < length t → Right (rule.rule_26 s e x)
    right_26 e x a b = go (nat_lt e x)
      where
        go : (less : Bool) → Right (if less then of_pulse log e x (Ok (part.same e x ∷ after e x ∷ after x e ∷ [])) else Err Kind)
        go true = of_pulse-right (is_pulse_row log e || is_pulse_row log x) (part.same e x ∷ after e x ∷ after x e ∷ [])
            (any_3 _ _ _ (λ differ early. after-says x e ∙ not_from_false _ (apart-times (time_of t e) (time_of t x) (sym (same-at e x) ∙ differ) (not-false _ (sym (after-says e x) ∙ early)))))
        go false = tt

    -- what tells the state of a proposition at a row
    abbrev pulsed : ℕ → ℕ → List ℕ → Bool
    pulsed e h name = list_any (λ u. int_eq (time_of t u) (time_of t e)) (pulses_of log h name)

    abbrev changed : ℕ → ℕ → List ℕ → Bool
    changed e h name = option_map_or (λ (c : Change). c.sets) (find (λ c. int_le (time_of t c.row) (time_of t e)) (reverse (changes_of log h name))) false

    abbrev stated : ℕ → List ℕ → Option ℕ → Bool
    stated e name h = option_map_or (λ h. pulsed e h name || changed e h name) h false

    pulses-say : (us : List ℕ) (e : ℕ) → list_any (part_holds M) (at_pulses us e) ≡ list_any (λ u. int_eq (time_of t u) (time_of t e)) us
    pulses-say us e = any-map (part_holds M) (λ u. part.same u e) us ∙ any-agrees (λ u. part_holds M (part.same u e)) (λ u. int_eq (time_of t u) (time_of t e)) us (λ u. same-at u e)

    right_27 : (k e place : ℕ) → k < length trees → e < length t → Right (rule.rule_27 s k e place)
    right_27 k e place low in_ =
        subst (λ o. Right (of_kind (proposition_in o) (λ rows. option_map_or (λ u. Ok (part.not_same u e ∷ is (Node k e) ∷ []))
        (slice_get rows.pulses place) (Err Range)))) (shape-there k low) (go (tree_at trees k) refl)
      where
        at_pulse : (h : ℕ) (name : List ℕ) → M (Node k e) ≡ (pulsed e h name || changed e h name) → (o : Option ℕ)
            → slice_get (pulses_of log h name) place ≡ o
            → Right (option_map_or (λ u. Ok (part.not_same u e ∷ is (Node k e) ∷ [])) o (Err Range))
        at_pulse h name state None there = tt
        at_pulse h name state (Some u) there = any_2 _ _ (λ no.
            let here : int_eq (time_of t u) (time_of t e) ≡ true = not-false _ (sym (not_same-at u e) ∙ no) in
            state ∙ or_left (pulsed e h name) (changed e h name) (passes-at (λ u. int_eq (time_of t u) (time_of t e)) (pulses_of log h name) place u there here))

        named : (name : List ℕ) (h : Option ℕ) → M (Node k e) ≡ stated e name h
            → Right (option_map_or (λ u. Ok (part.not_same u e ∷ is (Node k e) ∷ [])) (slice_get (option_map_or (λ h. pulses_of log h name) h []) place) (Err Range))
        named name None state = tt
        named name (Some h) state = at_pulse h name state (slice_get (pulses_of log h name) place) refl

        go : (tree : Form) → tree_at trees k ≡ tree
            → Right (of_kind (proposition_in (shape_of log trees tree)) (λ rows. option_map_or (λ u. Ok (part.not_same u e ∷ is (Node k e) ∷ [])) (slice_get rows.pulses place) (Err Range)))
        go (Prop host name) at = named name (host_named log host) (node-is k e (Prop host name) in_ at)
        go _ at = tt

    module _ (valid : IsLog log) (ok : Admissible log t) (law : BeforeIsNotLater) where
      falls : (host : ℕ) (name : List ℕ) (instant : ℤ) → Falls (is_by t instant) (changes_of log host name)
      falls host name instant = changes-fall log host name t instant (length log.rows) (λ e f within less own. times-rise law log t valid ok e f within less own) 0 (length log.rows) (omega arith)

      has_come-says : (cs : List Change) (place e : ℕ) → part_holds M (has_come cs place e) ≡ option_map_or (is_by t (time_of t e)) (slice_get cs place) false
      has_come-says cs place e = go (slice_get cs place)
        where
          go : (o : Option Change) → part_holds M (option_map_or (λ c. not_after c.row e) o (Known false)) ≡ option_map_or (is_by t (time_of t e)) o false
          go None = refl
          go (Some c) = not_after-says c.row e

      right_1 : (k e : ℕ) → k < length trees → e < length t → Right (rule.rule_1 s k e)
      right_1 k e low in_ =
          subst (λ o. Right (of_kind (proposition_in o) (λ rows. Ok
          (is_not (Node k e) ∷ has_come rows.changes 0 e ∷ at_pulses rows.pulses e)))) (shape-there k low) (go (tree_at trees k) refl)
        where
          named : (name : List ℕ) (h : Option ℕ) → M (Node k e) ≡ stated e name h
              → list_any (part_holds M) (is_not (Node k e) ∷ has_come (option_map_or (λ h. changes_of log h name) h []) 0 e ∷ at_pulses (option_map_or (λ h. pulses_of log h name) h []) e) ≡ true
          named name None state = any_rest (not (M (Node k e))) _ (λ no. absurd (apart (M (Node k e)) (not-false _ no) state))
          named name (Some h) state = any_rest (not (M (Node k e))) _ (λ no. any_rest (part_holds M (has_come (changes_of log h name) 0 e)) _ (λ none.
              let first : first_passes (is_by t (time_of t e)) (changes_of log h name) ≡ false = sym (has_come-says (changes_of log h name) 0 e) ∙ none in
              let nothing = first-none (is_by t (time_of t e)) (changes_of log h name) (falls h name (time_of t e)) first in
              pulses-say (pulses_of log h name) e ∙ only-pulsed (M (Node k e)) (pulsed e h name) (changed e h name) (not-false _ no) state (ap (λ o. option_map_or (λ (c : Change). c.sets) o false) nothing)))

          go : (tree : Form) → tree_at trees k ≡ tree
              → Right (of_kind (proposition_in (shape_of log trees tree)) (λ rows. Ok (is_not (Node k e) ∷ has_come rows.changes 0 e ∷ at_pulses rows.pulses e)))
          go (Prop host name) at = named name (host_named log host) (node-is k e (Prop host name) in_ at)
          go _ at = tt

      right_2 : (k e place : ℕ) → k < length trees → e < length t → Right (rule.rule_2 s k e place)
      right_2 k e place low in_ = subst (λ o. Right (of_kind (proposition_in o) (λ rows. option_map_or (λ c. Ok (after c.row e ∷ has_come rows.changes (place + 1) e ∷ Says (record { atom = Node k e; positive = c.sets }) ∷ at_pulses (if c.sets then [] else rows.pulses) e)) (slice_get rows.changes place) (Err Range)))) (shape-there k low) (go (tree_at trees k) refl)
        where
          -- what the change makes of the proposition, or a pulse where it clears it
          made : (h : ℕ) (name : List ℕ) (sets : Bool) → M (Node k e) ≡ (pulsed e h name || changed e h name) → changed e h name ≡ sets
              → list_any (part_holds M) (Says (record { atom = Node k e; positive = sets }) ∷ at_pulses (if sets then [] else pulses_of log h name) e) ≡ true
          made h name true state is = any_1 (M (Node k e)) (state ∙ or_right (pulsed e h name) (changed e h name) is)
          made h name false state is =
              any_rest (not (M (Node k e))) _ (λ no. pulses-say (pulses_of log h name) e
              ∙ only-pulsed (M (Node k e)) (pulsed e h name) (changed e h name) (not-false _ no) state is)

          at_change : (h : ℕ) (name : List ℕ) → M (Node k e) ≡ (pulsed e h name || changed e h name) → (o : Option Change) → slice_get (changes_of log h name) place ≡ o
              → Right (option_map_or (λ c. Ok (after c.row e ∷ has_come (changes_of log h name) (place + 1) e
              ∷ Says (record { atom = Node k e; positive = c.sets }) ∷ at_pulses (if c.sets then [] else pulses_of log h name) e)) o
              (Err Range))
          at_change h name state None there = tt
          at_change h name state (Some c) there = any_rest (part_holds M (after c.row e)) _ (λ begun. any_rest (part_holds M (has_come (changes_of log h name) (place + 1) e)) _ (λ next.
              let by : int_le (time_of t c.row) (time_of t e) ≡ true = not-false _ (sym (after-says c.row e) ∙ begun) in
              let last = last-at (is_by t (time_of t e)) (changes_of log h name) (falls h name (time_of t e)) place c there by (sym (has_come-says (changes_of log h name) (place + 1) e) ∙ next) in
              made h name c.sets state (ap (λ o. option_map_or (λ (c : Change). c.sets) o false) last)))

          named : (name : List ℕ) (h : Option ℕ) → M (Node k e) ≡ stated e name h
              → Right (option_map_or (λ c. Ok (after c.row e ∷ has_come (option_map_or (λ h. changes_of log h name) h []) (place + 1) e
              ∷ Says (record { atom = Node k e; positive = c.sets })
              ∷ at_pulses (if c.sets then [] else option_map_or (λ h. pulses_of log h name) h []) e))
              (slice_get (option_map_or (λ h. changes_of log h name) h []) place) (Err Range))
          named name None state = tt
          named name (Some h) state = at_change h name state (slice_get (changes_of log h name) place) refl

          go : (tree : Form) → tree_at trees k ≡ tree → Right (of_kind (proposition_in (shape_of log trees tree)) (λ rows. option_map_or (λ c. Ok (after c.row e ∷ has_come rows.changes (place + 1) e ∷ Says (record { atom = Node k e; positive = c.sets }) ∷ at_pulses (if c.sets then [] else rows.pulses) e)) (slice_get rows.changes place) (Err Range)))
          go (Prop host name) at = named name (host_named log host) (node-is k e (Prop host name) in_ at)
          go _ at = tt

      right_24 : (e : ℕ) → e < length t → truth log t 0 (tree_at trees root) ≡ value → Right (rule.rule_24 s e)
      right_24 e in_ gives = any_2 _ _ (λ no.
          let place = place-of_first t e in_ (λ x low. let h = first-at e x (not-false _ no) low in omega (arith, ints)) in
          of-sense value (M (Node root e)) (ap (λ i. truth log t i (tree_at trees root)) place ∙ gives))

      in-timing : (e : ℕ) → e < length log.rows → e < length t
      in-timing e low = omega (arith, low, count)

      -- what a row writes holds, for arguments that are there
      abbrev RowHolds : Row → Type 0
      RowHolds row = OfRow s Right row

      one_event : (write : Sought → ℕ → Written) → ((e : ℕ) → e < length t → Right (write s e)) → RowHolds (of_event write)
      one_event write h = row-of-event s Right write (λ e low. h e (in-timing e low))

      two_events : (write : Sought → ℕ → ℕ → Written) → ((e x : ℕ) → e < length t → x < length t → Right (write s e x)) → RowHolds (of_events write)
      two_events write h = row-of-events s Right write (λ e x low-e low-x. h e x (in-timing e low-e) (in-timing x low-x))

      node_event : (write : Sought → ℕ → ℕ → Written) → ((k e : ℕ) → k < length trees → e < length t → Right (write s k e)) → RowHolds (of_node_event write)
      node_event write h = row-of-node s Right write (λ k e low-k low-e. h k e low-k (in-timing e low-e))

      node_events : (write : Sought → ℕ → ℕ → ℕ → Written) → ((k i j : ℕ) → k < length trees → i < length t → j < length t → Right (write s k i j)) → RowHolds (of_node_events write)
      node_events write h = row-of-two s Right write (λ k i j low-k low-i low-j. h k i j low-k (in-timing i low-i) (in-timing j low-j))

      node_three_events : (write : Sought → ℕ → ℕ → ℕ → ℕ → Written)
          → ((k i j m : ℕ) → k < length trees → i < length t → j < length t → m < length t → Right (write s k i j m))
          → RowHolds (of_node_three_events write)
      node_three_events write h = row-of-three s Right write (λ k i j m low-k low-i low-j low-m. h k i j m low-k (in-timing i low-i) (in-timing j low-j) (in-timing m low-m))

      node_event_change : (write : Sought → ℕ → ℕ → ℕ → Written) → ((k e place : ℕ) → k < length trees → e < length t → Right (write s k e place)) → RowHolds (of_node_event_change write)
      node_event_change write h = row-of-change s Right write (λ k e place low-k low-e. h k e place low-k (in-timing e low-e))

      node_event_pulse : (write : Sought → ℕ → ℕ → ℕ → Written) → ((k e place : ℕ) → k < length trees → e < length t → Right (write s k e place)) → RowHolds (of_node_event_pulse write)
      node_event_pulse write h = row-of-pulse s Right write (λ k e place low-k low-e. h k e place low-k (in-timing e low-e))

      some-rows : 0 < length t
      some-rows = omega (arith, count, valid.some_rows)

      -- each row holds, that of rule 24 where the value sought is given
      rows-hold : (number : ℕ) (row : Row) → row_of number ≡ Some row → (number ≡ 24 → truth log t 0 (tree_at trees root) ≡ value) → RowHolds row
      rows-hold = row-case (λ n row. (n ≡ 24 → truth log t 0 (tree_at trees root) ≡ value) → RowHolds row) (
        (λ g. node_event rule.rule_1 right_1),
        (
          (λ g. node_event_change rule.rule_2 right_2),
          (
            (λ g. node_event rule.rule_3 right_3),
            (
              (λ g. node_event rule.rule_4 right_4),
              (
                (λ g. node_event rule.rule_5 right_5),
                (
                  (λ g. node_event rule.rule_6 right_6),
                  (
                    (λ g. node_event rule.rule_7 right_7),
                    (
                      (λ g. node_event rule.rule_8 right_8),
                      (
                        (λ g. two_events rule.rule_9 right_9),
                        (
                          (λ g. one_event rule.rule_10 right_10),
                          (
                            (λ g. row-of-nothing s Right rule.rule_11 (right_11 some-rows)),
                            (
                              (λ g. node_events rule.rule_12 right_12),
                              (
                                (λ g. node_events rule.rule_13 right_13),
                                (
                                  (λ g. node_events rule.rule_14 right_14),
                                  (
                                    (λ g. node_events rule.rule_15 right_15),
                                    (
                                      (λ g. node_events rule.rule_16 right_16),
                                      (
                                        (λ g. node_event rule.rule_17 right_17),
                                        (
                                          (λ g. node_events rule.rule_18 right_18),
                                          (
                                            (λ g. node_three_events rule.rule_19 right_19),
                                            (
                                              (λ g. node_events rule.rule_20 right_20),
                                              ((λ g. node_three_events rule.rule_21 right_21), ((λ g. node_events rule.rule_22 right_22), ((λ g. node_events rule.rule_23 right_23), ((λ g. one_event rule.rule_24 (λ e in_. right_24 e in_ (g refl))), ((λ g. two_events rule.rule_25 right_25), ((λ g. two_events rule.rule_26 right_26), ((λ g. node_event_pulse rule.rule_27 right_27), ((λ g. node_events rule.rule_28 right_28), tt)))))))),
                                            ),
                                          ),
                                        ),
                                      ),
                                    ),
                                  ),
                                ),
                              ),
                            ),
                          ),
                        ),
                      ),
                    ),
                  ),
                ),
              ),
            ),
          ),
        ),
      )

      pub rule-right : (rule : Rule) (c : List Literal) → (rule.number ≡ 24 → truth log t 0 (tree_at trees root) ≡ value) → clause_of s rule ≡ Ok c → clause_holds log t trees c ≡ true
      rule-right rule c gives is =
          let w = written-by s rule c is in
          let right : Right (Ok w.parts) = subst Right w.written (rows-hold rule.number w.row w.at gives rule.args w.there) in
          clause_from_parts M w.parts c w.clause right

pub rules-hold : CoresAreCores → NodesAreSubtrees → TruthOfCore → BeforeIsNotLater → RulesHold
rules-hold cores nodes core before = record {
  lasting =
      λ log t f v rule c valid ok lasts is. rule-right log t (nodes_of f) (length (nodes_of f) - 1) v ok.count cores.equality
      (nodes.children_first f) valid ok before rule c (λ one. absurd (lasts (rw one refl))) is;
  sought_value = λ log t f v rule c valid ok gives is. rule-right log t (nodes_of f) (length (nodes_of f) - 1) v ok.count cores.equality (nodes.children_first f) valid ok before rule c
      (λ one. ap (λ tree. truth log t 0 tree) (nodes.root f).1 ∙ core.at_position log t 0 f ∙ gives) is;
}
