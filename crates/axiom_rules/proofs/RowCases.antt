-- What stands behind the clause of a rule, and what is so of each row of the table.
use Rattle.std.proofs.Common.{◌≡◌, refl, subst, ℕ, zero, suc, ◌+◌, ◌<◌, Bool, true, false, if◌then◌else◌, List, [], ◌∷◌, length, Option, Some, None, Ok, Err, arith}
use Rattle.std.specs.Prelude.{slice_get}
use Rattle.std.specs.List.{AllByRecursion}
use Rattle.std.specs.Option.{option_map_or}
use Rattle.std.proofs.lemmas.Bool.{and_parts}
use Rattle.std.proofs.lemmas.Bool.Decides.{nat_tests}
use Rattle.axiom_rules.specs.declared.fault.RuleFault.TheVariants.{NoRule, Range}
use Rattle.axiom_rules.specs.declared.literal.Literal.{Literal}
use Rattle.axiom_rules.specs.declared.part.Part.{Part}
use Rattle.axiom_rules.specs.declared.rule.Argument.{Argument}
use Rattle.axiom_rules.specs.declared.rule.Argument.TheVariants.{ANode, AnEvent, AChange, APulse, Unused}
use Rattle.axiom_rules.specs.declared.rule.Rule.{Rule}
use Rattle.axiom_rules.specs.Clauses.{Row, are_there, clause_of, is_there, of_event, of_events, of_node_event, of_node_event_change, of_node_event_pulse, of_node_events, of_node_three_events, of_nothing, row_of, rows}
use Rattle.axiom_rules.specs.Parts.{Written, clause_of_parts, clause_of_written}
use Rattle.axiom_rules.specs.Rules.{rule_1, rule_2, rule_3, rule_4, rule_5, rule_6, rule_7, rule_8, rule_9, rule_10, rule_11, rule_12, rule_13, rule_14, rule_15, rule_16, rule_17, rule_18, rule_19, rule_20, rule_21, rule_22, rule_23, rule_24, rule_25, rule_26, rule_27, rule_28}
use Rattle.axiom_rules.specs.Sought.{Sought}

-- a rule that has a clause has a row, its arguments are there, and the clause is that of what the row writes
pub record IsWrittenBy (s : Sought) (rule : Rule) (c : List Literal) : Type 0 where
  pub row : Row
  pub at : row_of rule.number ≡ Some row
  pub there : are_there s row.arguments rule.args ≡ true
  pub parts : List Part
  pub written : row.writes s rule.args ≡ Ok parts
  pub clause : clause_of_parts parts ≡ Ok c

pub written-by : (s : Sought) (rule : Rule) (c : List Literal) → clause_of s rule ≡ Ok c → IsWrittenBy s rule c
written-by s rule c is = go (row_of rule.number) refl is
  where
    parts-of : (row : Row) → row_of rule.number ≡ Some row → are_there s row.arguments rule.args ≡ true → (w : Written) → row.writes s rule.args ≡ w → clause_of_written w ≡ Ok c → IsWrittenBy s rule c
    parts-of row at there (Ok parts) written is = record { row = row; at = at; there = there; parts = parts; written = written; clause = is }
    parts-of row at there (Err fault) written is = absurd (cc)

    arguments : (row : Row) → row_of rule.number ≡ Some row → (b : Bool) → are_there s row.arguments rule.args ≡ b
        → (if b then clause_of_written (row.writes s rule.args) else Err Range) ≡ Ok c → IsWrittenBy s rule c
    arguments row at true there is = parts-of row at there (row.writes s rule.args) refl is
    arguments row at false there is = absurd (cc)

    go : (o : Option Row) → row_of rule.number ≡ o
        → option_map_or (λ row. if are_there s row.arguments rule.args then clause_of_written (row.writes s rule.args) else Err Range) o (Err NoRule) ≡ Ok c
        → IsWrittenBy s rule c
    go None at is = absurd (cc)
    go (Some row) at is = arguments row at (are_there s row.arguments rule.args) refl is

-- what holds of each element holds of the one at a place
pub holds-at : {X : Type 0} (P : X → Type 0) (xs : List X) (n : ℕ) (x : X) → AllByRecursion P xs → slice_get xs n ≡ Some x → P x
holds-at P [] n x h there = absurd (cc)
holds-at P (y ∷ xs) zero x h there = let same : y ≡ x = cc in subst P same h.0
holds-at P (y ∷ xs) (suc n) x h there = holds-at P xs n x h.1 there

module _ (P : ℕ → Row → Type 0) where
  -- something is so of each row and its number, the first number being this one
  abbrev pub AreFrom : ℕ → List Row → Type 0
  AreFrom n [] = Unit {0}
  AreFrom n (row ∷ more) = P n row × AreFrom (suc n) more

  is-from : (first n number : ℕ) (table : List Row) (row : Row) → AreFrom first table → slice_get table n ≡ Some row → number ≡ first + n → P number row
  is-from first n number [] row h there is = absurd (cc)
  is-from first zero number (x ∷ more) row h there is = let same : x ≡ row = cc in let e : first ≡ number = omega (arith, is) in subst (P number) same (subst (λ m. P m x) e h.0)
  is-from first (suc n) number (x ∷ more) row h there is = is-from (suc first) n number more row h.1 there (omega (arith, is))

  -- what is so of each row of the table is so of that of a number
  pub row-case : AreFrom 1 rows → (number : ℕ) (row : Row) → row_of number ≡ Some row → P number row
  row-case h zero row there = absurd (cc)
  row-case h (suc n) row there = is-from 1 n (suc n) rows row h there (omega arith)

-- what is so of the rows of each shape, and of those on changes and on pulses, is so of each row of the table
pub shape-case : (P : Row → Type 0) → ((w : Sought → Written) → P (of_nothing w)) → ((w : Sought → ℕ → Written) → P (of_event w)) → ((w : Sought → ℕ → ℕ → Written) → P (of_events w))
    → ((w : Sought → ℕ → ℕ → Written) → P (of_node_event w)) → ((w : Sought → ℕ → ℕ → ℕ → Written) → P (of_node_events w)) → ((w : Sought → ℕ → ℕ → ℕ → ℕ → Written) → P (of_node_three_events w))
    → P (of_node_event_change rule_2) → P (of_node_event_pulse rule_27) → (number : ℕ) (row : Row) → row_of number ≡ Some row → P row
shape-case P nothing event events node two three change pulse = row-case (λ n row. P row) (
  node rule_1,
  (change, (node rule_3, (node rule_4, (node rule_5, (node rule_6, (node rule_7, (node rule_8, (events rule_9, (event rule_10, (nothing rule_11, (two rule_12, (two rule_13, (two rule_14, (two rule_15, (two rule_16, (node rule_17, (two rule_18, (three rule_19, (two rule_20, (three rule_21, (two rule_22, (two rule_23, (event rule_24, (events rule_25, (events rule_26, (pulse, (two rule_28, tt))))))))))))))))))))))))))),
)

-- four arguments that are there
pub four : (s : Sought) (p q r t : Argument) (args : List ℕ) → are_there s (p ∷ q ∷ r ∷ t ∷ []) args ≡ true
    → (a b c d : ℕ) × (args ≡ a ∷ b ∷ c ∷ d ∷ []) × (is_there s p a ≡ true) × (is_there s q b ≡ true) × (is_there s r c ≡ true) × (is_there s t d ≡ true)
four s p q r t [] is = absurd (cc)
four s p q r t (a ∷ []) is = let past = (and_parts (is_there s p a) false is).1 in absurd (cc)
four s p q r t (a ∷ b ∷ []) is = let past = (and_parts (is_there s q b) false (and_parts (is_there s p a) _ is).1).1 in absurd (cc)
four s p q r t (a ∷ b ∷ c ∷ []) is = let past = (and_parts (is_there s r c) false (and_parts (is_there s q b) _ (and_parts (is_there s p a) _ is).1).1).1 in absurd (cc)
four s p q r t (a ∷ b ∷ c ∷ d ∷ []) is =
    let one = and_parts (is_there s p a) _ is in
    let two = and_parts (is_there s q b) _ one.1 in
    let three = and_parts (is_there s r c) _ two.1 in
    let last = and_parts (is_there s t d) _ three.1 in
    (a, b, c, d, refl, one.0, two.0, three.0, last.0)
four s p q r t (a ∷ b ∷ c ∷ d ∷ e ∷ args) is =
    let past = (and_parts (is_there s t d) false (and_parts (is_there s r c) _ (and_parts (is_there s q b) _ (and_parts (is_there s p a) _ is).1).1).1).1 in absurd (cc)

module _ (s : Sought) (Q : Written → Type 0) where
  -- what the row writes is so, for arguments that are there
  abbrev pub OfRow : Row → Type 0
  OfRow row = (args : List ℕ) → are_there s row.arguments args ≡ true → Q (row.writes s args)

  event-there : (e : ℕ) → is_there s AnEvent e ≡ true → e < length s.log.rows
  event-there e is = grind (arith, nat_tests)

  node-there : (k : ℕ) → is_there s ANode k ≡ true → k < length s.trees
  node-there k is = grind (arith, nat_tests)

  pub row-of-nothing : (w : Sought → Written) → Q (w s) → OfRow (of_nothing w)
  row-of-nothing w so args there = so

  pub row-of-event : (w : Sought → ℕ → Written) → ((e : ℕ) → e < length s.log.rows → Q (w s e)) → OfRow (of_event w)
  row-of-event w each args there =
      let (a, b, c, d, are, in-a, in-b, in-c, in-d) = four s AnEvent Unused Unused Unused args there in
      rw are (each a (event-there a in-a))

  pub row-of-events : (w : Sought → ℕ → ℕ → Written) → ((e x : ℕ) → e < length s.log.rows → x < length s.log.rows → Q (w s e x)) → OfRow (of_events w)
  row-of-events w each args there =
      let (a, b, c, d, are, in-a, in-b, in-c, in-d) = four s AnEvent AnEvent Unused Unused args there in
      rw are (each a b (event-there a in-a) (event-there b in-b))

  pub row-of-node : (w : Sought → ℕ → ℕ → Written) → ((k e : ℕ) → k < length s.trees → e < length s.log.rows → Q (w s k e)) → OfRow (of_node_event w)
  row-of-node w each args there =
      let (a, b, c, d, are, in-a, in-b, in-c, in-d) = four s ANode AnEvent Unused Unused args there in
      rw are (each a b (node-there a in-a) (event-there b in-b))

  pub row-of-change : (w : Sought → ℕ → ℕ → ℕ → Written) → ((k e place : ℕ) → k < length s.trees → e < length s.log.rows → Q (w s k e place)) → OfRow (of_node_event_change w)
  row-of-change w each args there =
      let (a, b, c, d, are, in-a, in-b, in-c, in-d) = four s ANode AnEvent AChange Unused args there in
      rw are (each a b c (node-there a in-a) (event-there b in-b))

  pub row-of-pulse : (w : Sought → ℕ → ℕ → ℕ → Written) → ((k e place : ℕ) → k < length s.trees → e < length s.log.rows → Q (w s k e place)) → OfRow (of_node_event_pulse w)
  row-of-pulse w each args there =
      let (a, b, c, d, are, in-a, in-b, in-c, in-d) = four s ANode AnEvent APulse Unused args there in
      rw are (each a b c (node-there a in-a) (event-there b in-b))

  pub row-of-two : (w : Sought → ℕ → ℕ → ℕ → Written) → ((k i j : ℕ) → k < length s.trees → i < length s.log.rows → j < length s.log.rows → Q (w s k i j)) → OfRow (of_node_events w)
  row-of-two w each args there =
      let (a, b, c, d, are, in-a, in-b, in-c, in-d) = four s ANode AnEvent AnEvent Unused args there in
      rw are (each a b c (node-there a in-a) (event-there b in-b) (event-there c in-c))

  pub row-of-three : (w : Sought → ℕ → ℕ → ℕ → ℕ → Written) → ((k i j m : ℕ) → k < length s.trees → i < length s.log.rows → j < length s.log.rows → m < length s.log.rows → Q (w s k i j m))
      → OfRow (of_node_three_events w)
  row-of-three w each args there =
      let (a, b, c, d, are, in-a, in-b, in-c, in-d) = four s ANode AnEvent AnEvent AnEvent args there in
      rw are (each a b c d (node-there a in-a) (event-there b in-b) (event-there c in-c) (event-there d in-d))
