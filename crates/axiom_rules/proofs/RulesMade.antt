-- What the atoms of rules are made of, and how long clauses are: one lemma a rule.
use Rattle.std.proofs.Common.{◌≡◌, ap, refl, subst, ℕ, zero, suc, ◌+◌, ◌==◌, ◌<◌, ◌≤◌, Bool, true, false, ◌||◌, if◌then◌else◌, List, [], ◌∷◌, length, Option, Some, None, Ok, arith, ℤ, pos, ◌-ℤ◌, neg_ℤ}
use Rattle.std.specs.Prelude.{int_le, is_some, nat_lt, option_and_then, option_map, slice_get}
use Rattle.std.specs.List.{AllByRecursion, cons_option, filter_map, range_with_len}
use Rattle.std.specs.Option.{option_map_or}
use Rattle.std.proofs.lemmas.Bool.Decides.{nat_tests}
use Rattle.std.proofs.lemmas.Int.{ints}
use Rattle.mt_model.specs.Log.{Logged}
use Rattle.mt_model.specs.State.{Change, change_at, changes_of, effect_of, host_named, pulses_of}
use Rattle.mt_model.specs.Timing.{host_of}
use Rattle.mt_model.proofs.Members.{Among}
use Rattle.formula_arena.specs.declared.direction.Direction.{Direction}
use Rattle.formula_arena.specs.declared.direction.Direction.TheVariants.{Ahead, Behind}
use Rattle.axiom_rules.specs.declared.fault.RuleFault.TheVariants.{Kind, NoRule, Range}
use Rattle.axiom_rules.specs.declared.literal.Atom.{Atom}
use Rattle.axiom_rules.specs.declared.literal.Atom.TheVariants.{Order, Node, First, Same, Wit, Span, Gap}
use Rattle.axiom_rules.specs.declared.literal.Literal.{Literal}
use Rattle.axiom_rules.specs.declared.part.Part.{Part}
use Rattle.axiom_rules.specs.declared.part.Part.TheVariants.{Says, Known}
use Rattle.axiom_rules.specs.declared.reach.Reach.{Reach}
use Rattle.axiom_rules.specs.declared.rule.Rule.{Rule}
use Rattle.axiom_rules.specs.Clauses.{Row, clause_of, of_event, of_events, of_node_event, of_node_event_change, of_node_event_pulse, of_node_events, of_node_three_events, of_nothing, row_of}
use Rattle.axiom_rules.specs.ClauseLengths.{is_of_each_event, most_literals}
use Rattle.axiom_rules.specs.Laws.{IsOfRows}
use Rattle.axiom_rules.specs.Literals.{no, yes}
use Rattle.axiom_rules.specs.NodeShapes.{is_constant, operand_in, proposition_in, reach_in, rows_named, shape_at, sides_in}
use Rattle.axiom_rules.specs.Parts.{after, not_after, not_same, order, same}
use Rattle.axiom_rules.specs.Rules.{at_pulses, has_come, is, is_not, is_pulse_row, is_not_up_to, met_order, not_met_order, rule_1, rule_2, rule_3, rule_4, rule_5, rule_6, rule_7, rule_8, rule_9, rule_10, rule_11, rule_12, rule_13, rule_14, rule_15, rule_16, rule_17, rule_18, rule_19, rule_20, rule_21, rule_22, rule_23, rule_24, rule_25, rule_26, rule_27, rule_28}
use Rattle.axiom_rules.specs.Sought.{Sought}
use Rattle.axiom_rules.specs.declared.proposition.PropositionRows.{PropositionRows}
use Rattle.axiom_rules.proofs.ChangeCases.{proposition-case, proposition-rows}
use Rattle.axiom_rules.proofs.PartsMade.{IsMade, OfPart, OfParts, clause-short, of-1, of-2, of-3, of-4, of-5, of-clause, of-each, of-first-and-each, of-if, of-kind, of-ok, of-option}
use Rattle.axiom_rules.proofs.PulseLemmas.{IsPulse, pulses-are}
use Rattle.axiom_rules.proofs.RowCases.{OfRow, holds-at, row-case, row-of-change, row-of-event, row-of-events, row-of-node, row-of-nothing, row-of-pulse, row-of-three, row-of-two, written-by}

-- something holds of a bound and of that of the negated order
pub record BothWays (B : ℤ → Type 0) (c : ℤ) : Type 0 where
  pub bound : B c
  pub negated : B (neg_ℤ c -ℤ pos 1)

turned : (B : ℤ → Type 0) (c : ℤ) → BothWays B c → BothWays B (neg_ℤ c -ℤ pos 1)
turned B c both = record { bound = both.negated; negated = let same : c ≡ neg_ℤ (neg_ℤ c -ℤ pos 1) -ℤ pos 1 = omega (arith, ints) in subst B same both.bound }

-- something holds of the nodes that there are, of those that nodes name, and of the root
pub record AreNodes (s : Sought) (N : ℕ → Type 0) : Type 0 where
  pub each : (k : ℕ) → k < length s.trees → N k
  pub operand : (k a : ℕ) → operand_in (shape_at s k) ≡ Some a → N a
  pub sides : (k : ℕ) (both : ℕ × ℕ) → sides_in (shape_at s k) ≡ Some both → N both.0 × N both.1
  pub children : (k : ℕ) (u : Reach) → reach_in (shape_at s k) ≡ Some u → N u.left × N u.right
  pub root : N s.root

-- something holds both ways of 0, of the negated lower bounds of the intervals, and of their upper bounds
pub record AreBounds (s : Sought) (B : ℤ → Type 0) : Type 0 where
  pub zero : BothWays B (pos 0)
  pub low : (k : ℕ) (u : Reach) → reach_in (shape_at s k) ≡ Some u → BothWays B (neg_ℤ (pos u.interval.low))
  pub high : (k : ℕ) (u : Reach) (b : ℕ) → reach_in (shape_at s k) ≡ Some u → u.interval.high ≡ Some b → BothWays B (pos b)

-- an until or since node
abbrev pub IsReach : Sought → ℕ → Type 0
IsReach s k = is_some (reach_in (shape_at s k)) ≡ true

-- an atom names nodes of which something holds, and events that there are; an order and an atom of one instant have their smaller event first, and something holds both ways of an order's bound
abbrev pub IsMadeOf : (s : Sought) (N : ℕ → Type 0) (B : ℤ → Type 0) → Atom → Type 0
IsMadeOf s N B (Order e f c) = (e < f) × (f < length s.log.rows) × BothWays B c
IsMadeOf s N B (Node k e) = N k × (e < length s.log.rows)
IsMadeOf s N B (First e) = e < length s.log.rows
IsMadeOf s N B (Same e x) = (e < x) × (x < length s.log.rows)
IsMadeOf s N B (Wit k i j) = IsReach s k × (i < length s.log.rows) × (j < length s.log.rows)
IsMadeOf s N B (Span k i j) = IsReach s k × (i < length s.log.rows) × (j < length s.log.rows)
IsMadeOf s N B (Gap k i m) = IsReach s k × (i < length s.log.rows) × (m < length s.log.rows)

module _ (s : Sought) where
  -- a change is of a row of the log
  abbrev IsOfRow : Change → Type 0
  IsOfRow c = c.row < length s.log.rows

  change-in : (h : ℕ) (name : List ℕ) (e : ℕ) → e < length s.log.rows → (rest : List Change) → AllByRecursion IsOfRow rest → AllByRecursion IsOfRow (cons_option (change_at s.log h name e) rest)
  change-in h name e low rest all = go (host_of s.log e == h) (option_and_then (λ r. effect_of name r.act) (slice_get s.log.rows e))
    where
      go : (own : Bool) (made : Option Bool) → AllByRecursion IsOfRow (cons_option (let o : Option Change = (if own then option_map (λ sets. record { row = e; sets = sets }) made else None) in o) rest)
      go true None = all
      go true (Some sets) = (low, all)
      go false made = all

  changes-from : (h : ℕ) (name : List ℕ) (a n : ℕ) → a + n ≤ length s.log.rows → AllByRecursion IsOfRow (filter_map (change_at s.log h name) (range_with_len a n))
  changes-from h name a zero within = tt
  changes-from h name a (suc n) within = change-in h name a (omega arith) (filter_map (change_at s.log h name) (range_with_len (a + 1) n)) (changes-from h name (a + 1) n (omega arith))

  -- a pulse is
  abbrev IsLow : ℕ → Type 0
  IsLow u = u < length s.log.rows

  low-pulses : (log : Logged) (host : ℕ) (name : List ℕ) (us : List ℕ) → AllByRecursion (IsPulse log host name) us → AllByRecursion (λ u. u < length log.rows) us
  low-pulses log host name [] are = tt
  low-pulses log host name (u ∷ us) are = (are.0.0, low-pulses log host name us are.1)

  -- the rows that tell of a proposition are
  record AreOfRows (rows : PropositionRows) : Type 0 where
    changes : AllByRecursion IsOfRow rows.changes
    pulses : AllByRecursion IsLow rows.pulses

  named-in : (host name : List ℕ) → AreOfRows (rows_named s.log host name)
  named-in host name = record { changes = changes (host_named s.log host); pulses = pulses (host_named s.log host) }
    where
      changes : (o : Option ℕ) → AllByRecursion IsOfRow (option_map_or (λ h. changes_of s.log h name) o [])
      changes None = tt
      changes (Some h) = changes-from h name 0 (length s.log.rows) (omega arith)

      pulses : (o : Option ℕ) → AllByRecursion IsLow (option_map_or (λ h. pulses_of s.log h name) o [])
      pulses None = tt
      pulses (Some h) = low-pulses s.log h name (pulses_of s.log h name) (pulses-are s.log h name)

  rows-in : (k : ℕ) (rows : PropositionRows) → proposition_in (shape_at s k) ≡ Some rows → AreOfRows rows
  rows-in k = proposition-case s AreOfRows named-in (slice_get s.trees k)

module _ (s : Sought) (N : ℕ → Type 0) (B : ℤ → Type 0) (nodes : AreNodes s N) (bounds : AreBounds s B) where
  abbrev P : Atom → Type 0
  P a = IsMadeOf s N B a

  -- a row writes of such atoms, and no more parts than a clause of its number may have literals
  abbrev IsRow : ℕ → Row → Type 0
  IsRow number row = OfRow s (IsMade s P (most_literals s number)) row

  -- of rules that have a part for each event
  abbrev of-events : ℕ
  of-events = length s.log.rows + 5

  -- what an order says
  order-made : (e f : ℕ) (c : ℤ) → e < length s.log.rows → f < length s.log.rows → BothWays B c → OfPart P (order e f c)
  order-made e f c low-e low-f both = go (e == f) (nat_lt e f) refl refl
    where
      greater : (same less : Bool) → e == f ≡ same → nat_lt e f ≡ less → same ≡ false → less ≡ false → f < e
      greater same less is-same is-less not-same not-less = grind (arith, nat_tests)

      smaller : nat_lt e f ≡ true → e < f
      smaller is = grind (arith, nat_tests)

      literal : (less : Bool) → e == f ≡ false → nat_lt e f ≡ less → P (let l : Literal = (if less then yes (Order e f c) else no (Order f e (neg_ℤ c -ℤ pos 1))) in l).atom
      literal true apart is = (smaller is, low-f, both)
      literal false apart is = (greater false false apart is refl refl, low-e, turned B c both)

      go : (same less : Bool) → e == f ≡ same → nat_lt e f ≡ less → OfPart P (let p : Part = (if same then Known (int_le (pos 0) c) else Says (if less then yes (Order e f c) else no (Order f e (neg_ℤ c -ℤ pos 1)))) in p)
      go true less is-same is-less = tt
      go false less is-same is-less = literal less is-same is-less

  met-made : (direction : Direction) (e f : ℕ) (c : ℤ) → e < length s.log.rows → f < length s.log.rows → BothWays B c → OfPart P (met_order direction e f c)
  met-made Behind e f c low-e low-f both = order-made f e c low-f low-e both
  met-made Ahead e f c low-e low-f both = order-made e f c low-e low-f both

  not-met-made : (direction : Direction) (e f : ℕ) (c : ℤ) → e < length s.log.rows → f < length s.log.rows → BothWays B c → OfPart P (not_met_order direction e f c)
  not-met-made Behind e f c low-e low-f both = order-made e f (neg_ℤ c -ℤ pos 1) low-e low-f (turned B c both)
  not-met-made Ahead e f c low-e low-f both = order-made f e (neg_ℤ c -ℤ pos 1) low-f low-e (turned B c both)

  come-made : (changes : List Change) (place e : ℕ) → AllByRecursion (IsOfRow s) changes → e < length s.log.rows → OfPart P (has_come changes place e)
  come-made changes place e all low = go (slice_get changes place) refl
    where
      go : (o : Option Change) → slice_get changes place ≡ o → OfPart P (option_map_or (λ c. not_after c.row e) o (Known false))
      go None at = tt
      go (Some c) at = order-made c.row e (pos 0) (holds-at (IsOfRow s) changes place c all at) low bounds.zero

  far-made : (direction : Direction) (high : Option ℕ) (i j : ℕ) → i < length s.log.rows → j < length s.log.rows
      → ((b : ℕ) → high ≡ Some b → BothWays B (pos b)) → OfPart P (option_map_or (λ b. is_not_up_to direction b i j) high (Known false))
  far-made direction None i j low-i low-j each = tt
  far-made direction (Some b) i j low-i low-j each = not-met-made direction j i (pos b) low-j low-i (each b refl)

  reach : (k : ℕ) (u : Reach) → reach_in (shape_at s k) ≡ Some u → IsReach s k
  reach k u is = ap is_some is

  zero-turned : BothWays B (neg_ℤ (pos 0) -ℤ pos 1)
  zero-turned = turned B (pos 0) bounds.zero

  -- what is written of two events at one instant
  same-made : (e x : ℕ) → e < length s.log.rows → x < length s.log.rows → OfPart P (same e x) × OfPart P (not_same e x)
  same-made e x low-e low-x = go (e == x) (nat_lt e x) refl refl
    where
      smaller : nat_lt e x ≡ true → e < x
      smaller is = grind (arith, nat_tests)

      greater : e == x ≡ false → nat_lt e x ≡ false → x < e
      greater apart not-less = grind (arith, nat_tests)

      literal : (less : Bool) → e == x ≡ false → nat_lt e x ≡ less → P (let a : Atom = (if less then Same e x else Same x e) in a)
      literal true apart is = (smaller is, low-x)
      literal false apart is = (greater apart is, low-e)

      go : (equal less : Bool) → e == x ≡ equal → nat_lt e x ≡ less
          → OfPart P (let p : Part = (if equal then Known true else Says (yes (if less then Same e x else Same x e))) in p) × OfPart P (let p : Part = (if equal then Known false else Says (no (if less then Same e x else Same x e))) in p)
      go true less is-equal is-less = (tt, tt)
      go false less is-equal is-less = (literal less is-equal is-less, literal less is-equal is-less)

  at-pulses-made : (pulses : List ℕ) (e : ℕ) → AllByRecursion (IsLow s) pulses → e < length s.log.rows → OfParts P (at_pulses pulses e)
  at-pulses-made [] e all low = tt
  at-pulses-made (u ∷ pulses) e all low = ((same-made u e all.0 low).0, at-pulses-made pulses e all.1 low)

  at-pulses-count : (pulses : List ℕ) (e : ℕ) → length (at_pulses pulses e) ≡ length pulses
  at-pulses-count [] e = refl
  at-pulses-count (u ∷ pulses) e = ap suc (at-pulses-count pulses e)

  -- the parts for the pulses where a change clears the proposition
  cleared-made : (sets : Bool) (pulses : List ℕ) (e : ℕ) → AllByRecursion (IsLow s) pulses → e < length s.log.rows → length pulses ≤ length s.log.rows
      → OfParts P (at_pulses (if sets then [] else pulses) e) × (length (at_pulses (if sets then [] else pulses) e) ≤ length s.log.rows)
  cleared-made true pulses e all low few = (tt, omega arith)
  cleared-made false pulses e all low few = (at-pulses-made pulses e all low, omega (arith, few, at-pulses-count pulses e))

  made-1 : IsRow 1 (of_node_event rule_1)
  made-1 = row-of-node s (IsMade s P of-events) rule_1 (λ k e low-k low. of-kind s P of-events _ _ (λ (rows : PropositionRows) is.
      let of = rows-in s k rows is in
      of-ok s P of-events (is_not (Node k e) ∷ has_come rows.changes 0 e ∷ at_pulses rows.pulses e)
      ((nodes.each k low-k, low), (come-made rows.changes 0 e of.changes low, at-pulses-made rows.pulses e of.pulses low))
      (omega (arith, (proposition-rows s k rows is).few_pulses, at-pulses-count rows.pulses e))))

  made-2 : IsRow 2 (of_node_event_change rule_2)
  made-2 = row-of-change s (IsMade s P of-events) rule_2 (λ k e p low-k low. of-kind s P of-events _ _ (λ (rows : PropositionRows) is. of-option s P of-events (slice_get rows.changes p) _ Range (λ (c : Change) at.
      let of = rows-in s k rows is in
      let cleared = cleared-made c.sets rows.pulses e of.pulses low (proposition-rows s k rows is).few_pulses in
      of-ok s P of-events (after c.row e ∷ has_come rows.changes (p + 1) e ∷ Says (record { atom = Node k e; positive = c.sets }) ∷ at_pulses (if c.sets then [] else rows.pulses) e) (
        order-made e c.row (neg_ℤ (pos 0) -ℤ pos 1) low (holds-at (IsOfRow s) rows.changes p c of.changes at) zero-turned,
        (come-made rows.changes (p + 1) e of.changes low, ((nodes.each k low-k, low), cleared.0)),
      )
      (omega (arith, cleared.1)))))

  made-3 : IsRow 3 (of_node_event rule_3)
  made-3 = row-of-node s (IsMade s P 5) rule_3 (λ k e low-k low. of-if s P 5 _ _ Kind (of-1 s P _ (nodes.each k low-k, low)))

  made-4 : IsRow 4 (of_node_event rule_4)
  made-4 = row-of-node s (IsMade s P 5) rule_4 (λ k e low-k low. of-kind s P 5 _ _ (λ a is. of-2 s P _ _ (nodes.each k low-k, low) (nodes.operand k a is, low)))

  made-5 : IsRow 5 (of_node_event rule_5)
  made-5 = row-of-node s (IsMade s P 5) rule_5 (λ k e low-k low. of-kind s P 5 _ _ (λ a is. of-2 s P _ _ (nodes.each k low-k, low) (nodes.operand k a is, low)))

  made-6 : IsRow 6 (of_node_event rule_6)
  made-6 = row-of-node s (IsMade s P 5) rule_6 (λ k e low-k low. of-kind s P 5 _ _ (λ both is. of-2 s P _ _ (nodes.each k low-k, low) ((nodes.sides k both is).0, low)))

  made-7 : IsRow 7 (of_node_event rule_7)
  made-7 = row-of-node s (IsMade s P 5) rule_7 (λ k e low-k low. of-kind s P 5 _ _ (λ both is. of-2 s P _ _ (nodes.each k low-k, low) ((nodes.sides k both is).1, low)))

  made-8 : IsRow 8 (of_node_event rule_8)
  made-8 =
      row-of-node s (IsMade s P 5) rule_8 (λ k e low-k low. of-kind s P 5 _ _
      (λ both is. of-3 s P _ _ _ (nodes.each k low-k, low) ((nodes.sides k both is).0, low) ((nodes.sides k both is).1, low)))

  made-9 : IsRow 9 (of_events rule_9)
  made-9 = row-of-events s (IsMade s P 5) rule_9 (λ e x low low-x. of-2 s P _ _ low (order-made e x (pos 0) low low-x bounds.zero))

  made-10 : IsRow 10 (of_event rule_10)
  made-10 = row-of-event s (IsMade s P of-events) rule_10 (λ e low. of-first-and-each s P _ _ low (λ x low-x. order-made x e (neg_ℤ (pos 0) -ℤ pos 1) low-x low zero-turned))

  made-11 : IsRow 11 (of_nothing rule_11)
  made-11 = row-of-nothing s (IsMade s P of-events) rule_11 (of-each s P (λ e. is (First e)) (λ x low. low))

  made-12 : IsRow 12 (of_node_events rule_12)
  made-12 =
      row-of-two s (IsMade s P 5) rule_12 (λ k i j low-k low-i low-j. of-kind s P 5 _ _
      (λ (u : Reach) is. of-2 s P _ _ (reach k u is, low-i, low-j)
      (met-made u.direction i j (neg_ℤ (pos u.interval.low)) low-i low-j (bounds.low k u is))))

  made-13 : IsRow 13 (of_node_events rule_13)
  made-13 = row-of-two s (IsMade s P 5) rule_13 (λ k i j low-k low-i low-j. of-kind s P 5 _ _ (λ (u : Reach) is. of-option s P 5 u.interval.high _ NoRule (λ b at.
      of-2 s P _ _ (reach k u is, low-i, low-j) (met-made u.direction j i (pos b) low-j low-i (bounds.high k u b is at)))))

  made-14 : IsRow 14 (of_node_events rule_14)
  made-14 = row-of-two s (IsMade s P 5) rule_14 (λ k i j low-k low-i low-j. of-kind s P 5 _ _ (λ (u : Reach) is. of-2 s P _ _ (reach k u is, low-i, low-j) ((nodes.children k u is).1, low-j)))

  made-15 : IsRow 15 (of_node_events rule_15)
  made-15 = row-of-two s (IsMade s P 5) rule_15 (λ k i j low-k low-i low-j. of-kind s P 5 _ _ (λ (u : Reach) is. of-2 s P _ _ (reach k u is, low-i, low-j) (reach k u is, low-i, low-j)))

  made-16 : IsRow 16 (of_node_events rule_16)
  made-16 = row-of-two s (IsMade s P 5) rule_16 (λ k i j low-k low-i low-j. of-kind s P 5 _ _ (λ (u : Reach) is.
      of-5 s P _ _ _ _ _ (reach k u is, low-i, low-j) (not-met-made u.direction i j (neg_ℤ (pos u.interval.low)) low-i low-j (bounds.low k u is))
      (far-made u.direction u.interval.high i j low-i low-j (λ b at. bounds.high k u b is at)) ((nodes.children k u is).1, low-j) (reach k u is, low-i, low-j)))

  made-17 : IsRow 17 (of_node_event rule_17)
  made-17 =
      row-of-node s (IsMade s P of-events) rule_17 (λ k i low-k low-i. of-kind s P of-events _ _
      (λ (u : Reach) is. of-first-and-each s P _ _ (nodes.each k low-k, low-i) (λ x low-x. (reach k u is, low-i, low-x))))

  made-18 : IsRow 18 (of_node_events rule_18)
  made-18 = row-of-two s (IsMade s P 5) rule_18 (λ k i j low-k low-i low-j. of-kind s P 5 _ _ (λ (u : Reach) is. of-2 s P _ _ (nodes.each k low-k, low-i) (reach k u is, low-i, low-j)))

  made-19 : IsRow 19 (of_node_three_events rule_19)
  made-19 = row-of-three s (IsMade s P 5) rule_19 (λ k i j m low-k low-i low-j low-m. of-kind s P 5 _ _ (λ (u : Reach) is.
      of-4 s P _ _ _ _ (reach k u is, low-i, low-j) (not-met-made u.direction i m (pos 0) low-i low-m bounds.zero) (met-made u.direction j m (pos 0) low-j low-m bounds.zero) ((nodes.children k u is).0, low-m)))

  made-20 : IsRow 20 (of_node_events rule_20)
  made-20 =
      row-of-two s (IsMade s P of-events) rule_20 (λ k i j low-k low-i low-j. of-kind s P of-events _ _
      (λ (u : Reach) is. of-first-and-each s P _ _ (reach k u is, low-i, low-j) (λ x low-x. (reach k u is, low-i, low-x))))

  made-21 : IsRow 21 (of_node_three_events rule_21)
  made-21 = row-of-three s (IsMade s P 5) rule_21 (λ k i j m low-k low-i low-j low-m. of-kind s P 5 _ _ (λ (u : Reach) is.
      of-3 s P _ _ _ (reach k u is, low-i, low-m) (not-met-made u.direction j m (pos 0) low-j low-m bounds.zero) (reach k u is, low-i, low-j)))

  made-22 : IsRow 22 (of_node_events rule_22)
  made-22 =
      row-of-two s (IsMade s P 5) rule_22 (λ k i m low-k low-i low-m. of-kind s P 5 _ _
      (λ (u : Reach) is. of-2 s P _ _ (reach k u is, low-i, low-m) (met-made u.direction i m (pos 0) low-i low-m bounds.zero)))

  made-23 : IsRow 23 (of_node_events rule_23)
  made-23 = row-of-two s (IsMade s P 5) rule_23 (λ k i m low-k low-i low-m. of-kind s P 5 _ _ (λ (u : Reach) is. of-2 s P _ _ (reach k u is, low-i, low-m) ((nodes.children k u is).0, low-m)))

  made-24 : IsRow 24 (of_event rule_24)
  made-24 = row-of-event s (IsMade s P 5) rule_24 (λ e low. of-2 s P _ _ low (nodes.root, low))

  made-25 : IsRow 25 (of_events rule_25)
  made-25 =
      row-of-events s (IsMade s P 5) rule_25 (λ e x low low-x. of-if s P 5 (is_pulse_row s.log e || is_pulse_row s.log x) _ NoRule
      (of-2 s P _ _ (same-made e x low low-x).1 (order-made e x (pos 0) low low-x bounds.zero)))

  made-26 : IsRow 26 (of_events rule_26)
  made-26 = row-of-events s (IsMade s P 5) rule_26 (λ e x low low-x. of-if s P 5 (nat_lt e x) _ Kind (of-if s P 5 (is_pulse_row s.log e || is_pulse_row s.log x) _ NoRule
      (of-3 s P _ _ _ (same-made e x low low-x).0 (order-made x e (neg_ℤ (pos 0) -ℤ pos 1) low-x low zero-turned) (order-made e x (neg_ℤ (pos 0) -ℤ pos 1) low low-x zero-turned))))

  made-27 : IsRow 27 (of_node_event_pulse rule_27)
  made-27 = row-of-pulse s (IsMade s P 5) rule_27 (λ k e p low-k low. of-kind s P 5 _ _ (λ (rows : PropositionRows) is. of-option s P 5 (slice_get rows.pulses p) _ Range (λ u at.
      of-2 s P _ _ (same-made u e (holds-at (IsLow s) rows.pulses p u (rows-in s k rows is).pulses at) low).1 (nodes.each k low-k, low))))

  made-28 : IsRow 28 (of_node_events rule_28)
  made-28 = row-of-two s (IsMade s P 5) rule_28 (λ k i j low-k low-i low-j. of-kind s P 5 _ _ (λ (u : Reach) is. of-if s P 5 (is_constant (shape_at s u.left)) _ Kind
      (of-4 s P _ _ _ _ (reach k u is, low-i, low-j) (not-met-made u.direction i j (neg_ℤ (pos u.interval.low)) low-i low-j (bounds.low k u is))
      (far-made u.direction u.interval.high i j low-i low-j (λ b at. bounds.high k u b is at)) ((nodes.children k u is).1, low-j))))

  rows-made : (number : ℕ) (row : Row) → row_of number ≡ Some row → IsRow number row
  rows-made = row-case IsRow (
    made-1,
    (made-2, (made-3, (made-4, (made-5, (made-6, (made-7, (made-8, (made-9, (made-10, (made-11, (made-12, (made-13, (made-14, (made-15, (made-16, (made-17, (made-18, (made-19, (made-20, (made-21, (made-22, (made-23, (made-24, (made-25, (made-26, (made-27, (made-28, tt))))))))))))))))))))))))))),
  )

  -- the atoms in the clause of a rule are made of these
  pub atoms-made : (rule : Rule) (c : List Literal) (l : Literal) → clause_of s rule ≡ Ok c → Among c l → IsMadeOf s N B l.atom
  atoms-made rule c l is in_ =
      let w = written-by s rule c is in
      of-clause P w.parts c l w.clause (rows-made rule.number w.row w.at rule.args w.there w.parts w.written).0 in_

  -- how many literals a clause has at most
  literals-few : (rule : Rule) (c : List Literal) → clause_of s rule ≡ Ok c → length c ≤ most_literals s rule.number
  literals-few rule c is =
      let w = written-by s rule c is in
      omega (arith, clause-short w.parts c w.clause, (rows-made rule.number w.row w.at rule.args w.there w.parts w.written).1)

module _ (s : Sought) where
  -- nothing is asked of nodes and of bounds
  abbrev Any-node : ℕ → Type 0
  Any-node k = Unit {0}

  abbrev Any-bound : ℤ → Type 0
  Any-bound c = Unit {0}

  any-nodes : AreNodes s Any-node
  any-nodes = record { each = λ k low. tt; operand = λ k a is. tt; sides = λ k both is. (tt, tt); children = λ k u is. (tt, tt); root = tt }

  both : (c : ℤ) → BothWays Any-bound c
  both c = record { bound = tt; negated = tt }

  any-bounds : AreBounds s Any-bound
  any-bounds = record { zero = both (pos 0); low = λ k u is. both (neg_ℤ (pos u.interval.low)); high = λ k u b is at. both (pos b) }

  -- how many literals a clause has at most, by the number of its rule
  pub few-by-number : (rule : Rule) (c : List Literal) → clause_of s rule ≡ Ok c → length c ≤ most_literals s rule.number
  few-by-number = literals-few s Any-node Any-bound any-nodes any-bounds

  -- and whatever the rule: as many as the log has rows, and five
  pub few-literals : (rule : Rule) (c : List Literal) → clause_of s rule ≡ Ok c → length c ≤ length s.log.rows + 5
  few-literals rule c is = go (is_of_each_event rule.number) (few-by-number rule c is)
    where
      go : (each : Bool) → length c ≤ (let most : ℕ = (if each then length s.log.rows + 5 else 5) in most) → length c ≤ length s.log.rows + 5
      go true few = few
      go false few = omega (arith, few)

  -- an order atom is over two rows of the log, the smaller first, and so is one of one instant
  pub orders-of-rows : (rule : Rule) (c : List Literal) (l : Literal) → clause_of s rule ≡ Ok c → Among c l → IsOfRows s l.atom
  orders-of-rows rule c l is in_ = go l.atom (atoms-made s Any-node Any-bound any-nodes any-bounds rule c l is in_)
    where
      go : (a : Atom) → IsMadeOf s Any-node Any-bound a → IsOfRows s a
      go (Order e f c) made = (made.0, made.1)
      go (Node k e) made = tt
      go (First e) made = tt
      go (Same e x) made = made
      go (Wit k i j) made = tt
      go (Span k i j) made = tt
      go (Gap k i m) made = tt
