-- What each row of the rules says of truth values that satisfy the rules.
use Rattle.std.proofs.Common.{◌≡◌, ◌∙◌, sym, ap, refl, subst, ℕ, ◌<◌, Bool, true, false, not, List, [], ◌∷◌, length, Option, Some, ℤ, pos, ◌-ℤ◌, neg_ℤ, lt-ltb}
use Rattle.std.specs.Prelude.{int_le}
use Rattle.std.specs.List.{list_any, range_with_len}
use Rattle.std.proofs.lemmas.Bool.{and_from}
use Rattle.mt_model.specs.declared.tree.Interval.{Interval}
use Rattle.mt_model.specs.Form.{Form}
use Rattle.mt_model.specs.Log.{Logged}
use Rattle.mt_model.specs.Timing.{time_of}
use Rattle.mt_model.specs.Truth.{rows_in}
use Rattle.mt_model.proofs.Members.{any_some}
use Rattle.mt_model.proofs.PositionLemmas.{below}
use Rattle.formula_arena.specs.Directions.{met}
use Rattle.formula_arena.specs.declared.direction.Direction.{Direction}
use Rattle.formula_arena.specs.declared.direction.Direction.TheVariants.{Ahead, Behind}
use Rattle.axiom_rules.specs.declared.literal.Atom.{Atom}
use Rattle.axiom_rules.specs.declared.literal.Atom.TheVariants.{Order}
use Rattle.axiom_rules.specs.declared.part.Part.{Part}
use Rattle.axiom_rules.specs.declared.rule.Rule.{Rule}
use Rattle.axiom_rules.specs.Clauses.{of_event, of_events, of_node_event, of_node_event_change, of_node_event_pulse, of_node_events, of_node_three_events, of_nothing, row_of}
use Rattle.axiom_rules.specs.Holds.{means}
use Rattle.axiom_rules.specs.Parts.{Written, after, not_after, order}
use Rattle.axiom_rules.specs.Rules.{for_each_event, is_from, is_not_from, is_not_up_to, is_up_to, met_after, met_order, not_met_after, not_met_order, of_kind}
use Rattle.axiom_rules.specs.Sought.{Sought}
use Rattle.axiom_rules.proofs.MeaningLemmas.{distance, from, is_from-says, is_not_from-says, is_not_up_to-says, is_up_to-says, met_after-says, not_met_after-says}
use Rattle.axiom_rules.proofs.PartLemmas.{any-map, not_after_is, not_order-says, order-says, part_holds}
use Rattle.mtl_encode.specs.Exact.{SatisfiesKept}
use Rattle.mtl_encode.specs.Instances.{rule_at}
use Rattle.mtl_encode.proofs.PartUses.{WrittenIsTrue, written-true}

module _ (s : Sought) (out : Rule → Bool) (v : Atom → Bool) (satisfied : SatisfiesKept s out v) where
  -- a node, an event
  abbrev pub IsNodeOf : ℕ → Type 0
  IsNodeOf k = k < length s.trees

  abbrev pub IsEventOf : ℕ → Type 0
  IsEventOf e = e < length s.log.rows

  pub of_nothing-true : (number : ℕ) (write : Sought → Written) → row_of number ≡ Some (of_nothing write) → out (rule_at number 0 0 0 0) ≡ false → WrittenIsTrue v (write s)
  of_nothing-true number write is kept = written-true v s out satisfied number (0 ∷ 0 ∷ 0 ∷ 0 ∷ []) (of_nothing write) is refl kept

  pub of_event-true : (number : ℕ) (write : Sought → ℕ → Written) → row_of number ≡ Some (of_event write) → (e : ℕ) → IsEventOf e → out (rule_at number e 0 0 0) ≡ false → WrittenIsTrue v (write s e)
  of_event-true number write is e a kept = written-true v s out satisfied number (e ∷ 0 ∷ 0 ∷ 0 ∷ []) (of_event write) is (and_from _ _ (lt-ltb e (length s.log.rows) a) refl) kept

  pub of_events-true : (number : ℕ) (write : Sought → ℕ → ℕ → Written) → row_of number ≡ Some (of_events write) → (e x : ℕ) → IsEventOf e → IsEventOf x
      → out (rule_at number e x 0 0) ≡ false → WrittenIsTrue v (write s e x)
  of_events-true number write is e x a b kept =
      written-true v s out satisfied number (e ∷ x ∷ 0 ∷ 0 ∷ []) (of_events write) is (and_from _ _ (lt-ltb e (length s.log.rows) a) (and_from _ _ (lt-ltb x (length s.log.rows) b) refl)) kept

  pub of_node_event-true : (number : ℕ) (write : Sought → ℕ → ℕ → Written) → row_of number ≡ Some (of_node_event write) → (k e : ℕ) → IsNodeOf k → IsEventOf e
      → out (rule_at number k e 0 0) ≡ false → WrittenIsTrue v (write s k e)
  of_node_event-true number write is k e low a kept =
      written-true v s out satisfied number (k ∷ e ∷ 0 ∷ 0 ∷ []) (of_node_event write) is (and_from _ _ (lt-ltb k (length s.trees) low) (and_from _ _ (lt-ltb e (length s.log.rows) a) refl)) kept

  pub of_node_event_change-true : (number : ℕ) (write : Sought → ℕ → ℕ → ℕ → Written) → row_of number ≡ Some (of_node_event_change write) → (k e place : ℕ)
      → IsNodeOf k → IsEventOf e → out (rule_at number k e place 0) ≡ false → WrittenIsTrue v (write s k e place)
  of_node_event_change-true number write is k e place low a kept =
      written-true v s out satisfied number (k ∷ e ∷ place ∷ 0 ∷ []) (of_node_event_change write) is
      (and_from _ _ (lt-ltb k (length s.trees) low) (and_from _ _ (lt-ltb e (length s.log.rows) a) refl)) kept

  pub of_node_event_pulse-true : (number : ℕ) (write : Sought → ℕ → ℕ → ℕ → Written) → row_of number ≡ Some (of_node_event_pulse write) → (k e place : ℕ)
      → IsNodeOf k → IsEventOf e → out (rule_at number k e place 0) ≡ false → WrittenIsTrue v (write s k e place)
  of_node_event_pulse-true number write is k e place low a kept =
      written-true v s out satisfied number (k ∷ e ∷ place ∷ 0 ∷ []) (of_node_event_pulse write) is
      (and_from _ _ (lt-ltb k (length s.trees) low) (and_from _ _ (lt-ltb e (length s.log.rows) a) refl)) kept

  pub of_node_events-true : (number : ℕ) (write : Sought → ℕ → ℕ → ℕ → Written) → row_of number ≡ Some (of_node_events write) → (k i j : ℕ) → IsNodeOf k
      → IsEventOf i → IsEventOf j → out (rule_at number k i j 0) ≡ false → WrittenIsTrue v (write s k i j)
  of_node_events-true number write is k i j low a b kept =
      written-true v s out satisfied number (k ∷ i ∷ j ∷ 0 ∷ []) (of_node_events write) is
      (and_from _ _ (lt-ltb k (length s.trees) low) (and_from _ _ (lt-ltb i (length s.log.rows) a) (and_from _ _ (lt-ltb j (length s.log.rows) b) refl))) kept

  pub of_node_three_events-true : (number : ℕ) (write : Sought → ℕ → ℕ → ℕ → ℕ → Written) → row_of number ≡ Some (of_node_three_events write) → (k i j m : ℕ)
      → IsNodeOf k → IsEventOf i → IsEventOf j → IsEventOf m → out (rule_at number k i j m) ≡ false → WrittenIsTrue v (write s k i j m)
  of_node_three_events-true number write is k i j m low a b c kept =
      written-true v s out satisfied number (k ∷ i ∷ j ∷ m ∷ []) (of_node_three_events write) is
      (and_from _ _ (lt-ltb k (length s.trees) low)
      (and_from _ _ (lt-ltb i (length s.log.rows) a) (and_from _ _ (lt-ltb j (length s.log.rows) b) (and_from _ _ (lt-ltb m (length s.log.rows) c) refl))))
      kept

  -- what is written of a node that is of the kind
  pub kind-true : {X : Type 0} (o : Option X) (x : X) (write : X → Written) → o ≡ Some x → WrittenIsTrue v (of_kind o write) → WrittenIsTrue v (write x)
  kind-true o x write is h = subst (λ o. WrittenIsTrue v (of_kind o write)) is h

  -- of the parts for each event one is true
  pub event-true : (part : ℕ → Part) → list_any (part_holds v) (for_each_event s part) ≡ true → (e : ℕ) × (e < length s.log.rows) × (part_holds v (part e) ≡ true)
  event-true part h =
      let events = range_with_len 0 (length s.log.rows) in
      let (e, in_, is) = any_some (λ x. part_holds v (part x)) events (sym (any-map (part_holds v) part events) ∙ h) in
      (e, below (length s.log.rows) e in_, is)

-- truth values that a timing gives the order atoms
module _ (v : Atom → Bool) (log : Logged) (t : List ℤ) (trees : List Form) (agrees : (e f : ℕ) (c : ℤ) → v (Order e f c) ≡ int_le (time_of t e -ℤ time_of t f) c) where
  abbrev M : Atom → Bool
  M = means log t trees

  pub not_after-true : (e f : ℕ) → part_holds v (not_after e f) ≡ int_le (time_of t e) (time_of t f)
  not_after-true e f = order-says v (time_of t) agrees e f (pos 0) ∙ not_after_is (time_of t e) (time_of t f)

  pub after-true : (e f : ℕ) → part_holds v (after e f) ≡ not (int_le (time_of t e) (time_of t f))
  after-true e f = not_order-says v (time_of t) agrees e f (pos 0) ∙ ap not (not_after_is (time_of t e) (time_of t f))

  same-order : (e f : ℕ) (c : ℤ) → part_holds v (order e f c) ≡ part_holds M (order e f c)
  same-order e f c = order-says v (time_of t) agrees e f c ∙ sym (order-says M (time_of t) (λ e f c. refl) e f c)

  same-met : (direction : Direction) (e f : ℕ) (c : ℤ) → part_holds v (met_order direction e f c) ≡ part_holds M (met_order direction e f c)
  same-met Ahead e f c = same-order e f c
  same-met Behind e f c = same-order f e c

  same-not_met : (direction : Direction) (e f : ℕ) (c : ℤ) → part_holds v (not_met_order direction e f c) ≡ part_holds M (not_met_order direction e f c)
  same-not_met Ahead e f c = same-order f e (neg_ℤ c -ℤ pos 1)
  same-not_met Behind e f c = same-order e f (neg_ℤ c -ℤ pos 1)

  pub met_not_after-true : (direction : Direction) (e f : ℕ) → part_holds v (not_met_after direction e f) ≡ (met direction (rows_in t)).not_after e f
  met_not_after-true direction e f = same-met direction e f (pos 0) ∙ not_met_after-says log t trees direction e f

  pub met_after-true : (direction : Direction) (e f : ℕ) → part_holds v (met_after direction e f) ≡ not ((met direction (rows_in t)).not_after e f)
  met_after-true direction e f = same-not_met direction e f (pos 0) ∙ met_after-says log t trees direction e f

  pub from-true : (direction : Direction) (I : Interval) (i j : ℕ) → part_holds v (is_from direction I i j) ≡ from log t trees direction I i j
  from-true direction I i j = same-met direction i j (neg_ℤ (pos I.low)) ∙ is_from-says log t trees direction I i j

  pub not_from-true : (direction : Direction) (I : Interval) (i j : ℕ) → part_holds v (is_not_from direction I i j) ≡ not (from log t trees direction I i j)
  not_from-true direction I i j = same-not_met direction i j (neg_ℤ (pos I.low)) ∙ is_not_from-says log t trees direction I i j

  pub up_to-true : (direction : Direction) (b i j : ℕ) → part_holds v (is_up_to direction b i j) ≡ int_le (distance log t trees direction j i) (pos b)
  up_to-true direction b i j = same-met direction j i (pos b) ∙ is_up_to-says log t trees direction b i j

  pub not_up_to-true : (direction : Direction) (b i j : ℕ) → part_holds v (is_not_up_to direction b i j) ≡ not (int_le (distance log t trees direction j i) (pos b))
  not_up_to-true direction b i j = same-not_met direction j i (pos b) ∙ is_not_up_to-says log t trees direction b i j
