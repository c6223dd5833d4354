-- The rules that are gone through are those that have a clause, each once.
use Rattle.std.proofs.Common.{◌≡◌, sym, ap, refl, subst, ℕ, ◌+◌, ◌<◌, Bool, true, false, ◌&&◌, if◌then◌else◌, List, [], ◌∷◌, length, map, Option, Some, None, Ok, Err, inl, inr, arith}
use Rattle.std.specs.Prelude.{Result, is_ok, not, slice_index, slice_index_or}
use Rattle.std.specs.Option.{option_map_or}
use Rattle.std.proofs.lemmas.Bool.Decides.{nat_tests}
use Rattle.mt_model.proofs.Members.{Among}
use Rattle.axiom_rules.specs.declared.fault.RuleFault.{RuleFault}
use Rattle.axiom_rules.specs.declared.literal.Literal.{Literal}
use Rattle.axiom_rules.specs.declared.part.Part.{Part}
use Rattle.axiom_rules.specs.declared.rule.Argument.{Argument}
use Rattle.axiom_rules.specs.declared.rule.Argument.TheVariants.{ANode, AnEvent, AChange, APulse, Unused}
use Rattle.axiom_rules.specs.declared.rule.Rule.{Rule}
use Rattle.axiom_rules.specs.declared.rule.TheConstants.{MAX_RULE}
use Rattle.axiom_rules.specs.Clauses.{Row, are_there, clause_of, is_there, of_event, of_events, of_node_event, of_node_event_change, of_node_event_pulse, of_node_events, of_node_three_events, of_nothing, row_of}
use Rattle.axiom_rules.specs.NodeShapes.{proposition_in, shape_at}
use Rattle.axiom_rules.specs.Parts.{Written}
use Rattle.axiom_rules.specs.Rules.{rule_2, rule_27}
use Rattle.axiom_rules.specs.Sought.{Sought}
use Rattle.axiom_rules.proofs.RowCases.{four, shape-case, written-by}
use Rattle.axiom_rules.proofs.UnusedArguments.{number-low}
use Rattle.mtl_encode.proofs.ChangeRules.{few-rows, place-there}
use Rattle.mtl_encode.proofs.RangeLemmas.{Apart, among-at, among-flat, apart-flat, apart-pairs, flat-among, place-of}
use Rattle.mtl_encode.specs.Instances.{count_of, instances, kept, of_number, rule_at, with_none, with_one, with_three, with_two}
use Rattle.mtl_encode.specs.Listing.{IsKept, ListsRules}

-- a rule that is kept is the rule, has a clause and isn't left out
kept-is : (s : Sought) (out : Rule → Bool) (rule r : Rule) → Among (kept s out rule) r → (rule ≡ r) × IsKept s out r
kept-is s out rule r in_ = go (clause_of s rule) (out rule) refl refl in_
  where
    go : (c : Result (List Literal) RuleFault) (left : Bool) → clause_of s rule ≡ c → out rule ≡ left → Among (if is_ok c && not left then rule ∷ [] else []) r → (rule ≡ r) × IsKept s out r
    go (Ok c) false at stays (inl here) = (here, ((rw (← here) (c, at)), (rw (← here) stays)))
    go (Ok c) false at stays (inr there) = absurd there
    go (Ok c) true at left in_ = absurd in_
    go (Err fault) left at is in_ = absurd in_

kept-has : (s : Sought) (out : Rule → Bool) (rule : Rule) (c : List Literal) → clause_of s rule ≡ Ok c → out rule ≡ false → Among (kept s out rule) rule
kept-has s out rule c is stays = rw (is, stays) (inl refl)

-- the arguments of a rule by their places, and its number
abbrev arg_of : ℕ → Rule → ℕ
arg_of place r = slice_index r.args place

module _ (s : Sought) (out : Rule → Bool) (number : ℕ) (counts : List ℕ) where
  -- what stands among the rules of a number with these first arguments is one with them that has a clause
  three-is : (a b c : ℕ) (r : Rule) → Among (with_three s out number counts a b c) r → (d : ℕ) × (rule_at number a b c d ≡ r) × IsKept s out r
  three-is a b c r in_ =
      let (d, low, high, at) = flat-among (λ d. kept s out (rule_at number a b c d)) 0 (slice_index counts 3) r in_ in
      let is = kept-is s out (rule_at number a b c d) r at in
      (d, is.0, is.1)

  two-is : (a b : ℕ) (r : Rule) → Among (with_two s out number counts a b) r → (c d : ℕ) × (rule_at number a b c d ≡ r) × IsKept s out r
  two-is a b r in_ =
      let (c, low, high, at) = flat-among (with_three s out number counts a b) 0 (slice_index counts 2) r in_ in
      let (d, is, has) = three-is a b c r at in
      (c, d, is, has)

  one-is : (a : ℕ) (r : Rule) → Among (with_one s out number counts a) r → (b c d : ℕ) × (rule_at number a b c d ≡ r) × IsKept s out r
  one-is a r in_ =
      let (b, low, high, at) = flat-among (with_two s out number counts a) 0 (slice_index counts 1) r in_ in
      let (c, d, is, has) = two-is a b r at in
      (b, c, d, is, has)

  none-is : (r : Rule) → Among (with_none s out number counts) r → (a b c d : ℕ) × (rule_at number a b c d ≡ r) × IsKept s out r
  none-is r in_ =
      let (a, low, high, at) = flat-among (with_one s out number counts) 0 (slice_index counts 0) r in_ in
      let (b, c, d, is, has) = one-is a r at in
      (a, b, c, d, is, has)

  -- each of them once
  kept-apart : (rule : Rule) → Apart (kept s out rule)
  kept-apart rule = go (is_ok (clause_of s rule) && not (out rule))
    where
      go : (b : Bool) → Apart (let rs : List Rule = (if b then rule ∷ [] else []) in rs)
      go true = ((λ r in_. absurd in_), tt)
      go false = tt

  three-apart : (a b c : ℕ) → Apart (with_three s out number counts a b c)
  three-apart a b c = apart-flat (λ d. kept s out (rule_at number a b c d)) (arg_of 3) (λ d. kept-apart (rule_at number a b c d))
      (λ d r in_. sym (ap (arg_of 3) (kept-is s out (rule_at number a b c d) r in_).0)) 0 (slice_index counts 3)

  two-apart : (a b : ℕ) → Apart (with_two s out number counts a b)
  two-apart a b = apart-flat (with_three s out number counts a b) (arg_of 2) (three-apart a b)
      (λ c r in_. let (d, is, has) = three-is a b c r in_ in sym (ap (arg_of 2) is)) 0 (slice_index counts 2)

  one-apart : (a : ℕ) → Apart (with_one s out number counts a)
  one-apart a = apart-flat (with_two s out number counts a) (arg_of 1) (two-apart a)
      (λ b r in_. let (c, d, is, has) = two-is a b r in_ in sym (ap (arg_of 1) is)) 0 (slice_index counts 1)

  none-apart : Apart (with_none s out number counts)
  none-apart = apart-flat (with_one s out number counts) (arg_of 0) one-apart
      (λ a r in_. let (b, c, d, is, has) = one-is a r in_ in sym (ap (arg_of 0) is)) 0 (slice_index counts 0)

  -- a rule that has a clause stands among them where its arguments are below the counts
  none-has : (a b c d : ℕ) (clause : List Literal) → clause_of s (rule_at number a b c d) ≡ Ok clause → out (rule_at number a b c d) ≡ false
      → a < slice_index counts 0 → b < slice_index counts 1 → c < slice_index counts 2 → d < slice_index counts 3
      → Among (with_none s out number counts) (rule_at number a b c d)
  none-has a b c d clause is stays low-a low-b low-c low-d =
      let rule = rule_at number a b c d in
      let in-three = among-flat (λ d. kept s out (rule_at number a b c d)) 0 (slice_index counts 3) d rule (omega arith) (omega (arith, low-d)) (kept-has s out rule clause is stays) in
      let in-two = among-flat (with_three s out number counts a b) 0 (slice_index counts 2) c rule (omega arith) (omega (arith, low-c)) in-three in
      let in-one = among-flat (with_two s out number counts a) 0 (slice_index counts 1) b rule (omega arith) (omega (arith, low-b)) in-two in
      among-flat (with_one s out number counts) 0 (slice_index counts 0) a rule (omega arith) (omega (arith, low-a)) in-one

module _ (s : Sought) where
  -- the arguments of a row that writes something are below the counts of what they name
  abbrev AreBelow : Row → Type 0
  AreBelow row = (args : List ℕ) (parts : List Part) → are_there s row.arguments args ≡ true → row.writes s args ≡ Ok parts
      → (a b c d : ℕ) × (args ≡ a ∷ b ∷ c ∷ d ∷ []) × (a < slice_index (map (count_of s) row.arguments) 0) × (b < slice_index (map (count_of s) row.arguments) 1)
      × (c < slice_index (map (count_of s) row.arguments) 2) × (d < slice_index (map (count_of s) row.arguments) 3)

  -- a change or a pulse is looked for by the rule
  abbrev is_looked_for : Argument → Bool
  is_looked_for ANode = false
  is_looked_for AnEvent = false
  is_looked_for AChange = true
  is_looked_for APulse = true
  is_looked_for Unused = false

  -- another argument that is there is below the count
  below : (a : Argument) (n : ℕ) → is_looked_for a ≡ false → is_there s a n ≡ true → n < count_of s a
  below ANode n other is = grind (arith, nat_tests)
  below AnEvent n other is = grind (arith, nat_tests)
  below AChange n other is = absurd (cc)
  below APulse n other is = absurd (cc)
  below Unused n other is = grind (arith, nat_tests)

  all-there : (p q r t : Argument) (write : Sought → List ℕ → Written) → is_looked_for p ≡ false → is_looked_for q ≡ false → is_looked_for r ≡ false
      → is_looked_for t ≡ false → AreBelow (record { arguments = p ∷ q ∷ r ∷ t ∷ []; writes = write })
  all-there p q r t write hp hq hr ht args parts is written =
      let (a, b, c, d, args-are, in-a, in-b, in-c, in-d) = four s p q r t args is in
      (a, b, c, d, args-are, below p a hp in-a, below q b hq in-b, below r c hr in-c, below t d ht in-d)

  node-event : (w : Sought → ℕ → ℕ → Written) → AreBelow (of_node_event w)
  node-event w = all-there ANode AnEvent Unused Unused ((of_node_event w).writes) refl refl refl refl

  node-events : (w : Sought → ℕ → ℕ → ℕ → Written) → AreBelow (of_node_events w)
  node-events w = all-there ANode AnEvent AnEvent Unused ((of_node_events w).writes) refl refl refl refl

  three-events : (w : Sought → ℕ → ℕ → ℕ → ℕ → Written) → AreBelow (of_node_three_events w)
  three-events w = all-there ANode AnEvent AnEvent AnEvent ((of_node_three_events w).writes) refl refl refl refl

  two-events : (w : Sought → ℕ → ℕ → Written) → AreBelow (of_events w)
  two-events w = all-there AnEvent AnEvent Unused Unused ((of_events w).writes) refl refl refl refl

  one-event : (w : Sought → ℕ → Written) → AreBelow (of_event w)
  one-event w = all-there AnEvent Unused Unused Unused ((of_event w).writes) refl refl refl refl

  no-argument : (w : Sought → Written) → AreBelow (of_nothing w)
  no-argument w = all-there Unused Unused Unused Unused ((of_nothing w).writes) refl refl refl refl

  change-below : (k e place : ℕ) (parts : List Part) → rule_2 s k e place ≡ Ok parts → place < length s.log.rows
  change-below k e place parts is =
      let (rows, are, low) = place-there (proposition_in (shape_at s k)) (λ rows. rows.changes) _ place parts is in
      omega (arith, low, few-rows s k rows are)

  event-change : AreBelow (of_node_event_change rule_2)
  event-change args parts is written =
      let (a, b, c, d, args-are, in-a, in-b, in-c, in-d) = four s ANode AnEvent AChange Unused args is in
      let low = change-below a b c parts (rw args-are at written) in
      (a, b, c, d, args-are, below ANode a refl in-a, below AnEvent b refl in-b, low, below Unused d refl in-d)

  pulse-below : (k e place : ℕ) (parts : List Part) → rule_27 s k e place ≡ Ok parts → place < length s.log.rows
  pulse-below k e place parts is =
      let (rows, are, low) = place-there (proposition_in (shape_at s k)) (λ rows. rows.pulses) _ place parts is in
      omega (arith, low, few-rows s k rows are)

  event-pulse : AreBelow (of_node_event_pulse rule_27)
  event-pulse args parts is written =
      let (a, b, c, d, args-are, in-a, in-b, in-c, in-d) = four s ANode AnEvent APulse Unused args is in
      let low = pulse-below a b c parts (rw args-are at written) in
      (a, b, c, d, args-are, below ANode a refl in-a, below AnEvent b refl in-b, low, below Unused d refl in-d)

  rows-below : (number : ℕ) (row : Row) → row_of number ≡ Some row → AreBelow row
  rows-below = shape-case AreBelow no-argument one-event two-events node-event node-events three-events event-change event-pulse

module _ (s : Sought) (out : Rule → Bool) where
  -- a rule that has a clause and isn't left out stands among all
  pub every : (rule : Rule) (c : List Literal) → clause_of s rule ≡ Ok c → out rule ≡ false → Among (instances s out) rule
  every rule c is stays =
      let w = written-by s rule c is in
      let (a, b, p, d, args-are, low-a, low-b, low-p, low-d) = rows-below s rule.number w.row w.at rule.args w.parts w.there w.written in
      let same : rule_at rule.number a b p d ≡ rule = ap (λ args. let r : Rule = record { number = rule.number; args = args } in r) (sym args-are) in
      let has =
      none-has s out rule.number (map (count_of s) w.row.arguments) a b p d c (subst (λ (r : Rule). clause_of s r ≡ Ok c) (sym same) is)
      (subst (λ (r : Rule). out r ≡ false) (sym same) stays) low-a low-b low-p low-d in
      among-flat (of_number s out) 0 (MAX_RULE + 1) rule.number rule (omega arith) (omega (arith, number-low rule.number w.row w.at))
      (subst (λ (o : Option Row). Among (option_map_or (λ row. with_none s out rule.number (map (count_of s) row.arguments)) o []) rule) (sym w.at)
      (subst (λ (r : Rule). Among (with_none s out rule.number (map (count_of s) w.row.arguments)) r) same has))

  number-is : (number : ℕ) (r : Rule) → Among (of_number s out number) r → (number ≡ r.number) × IsKept s out r
  number-is number r in_ = go (row_of number) in_
    where
      go : (o : Option Row) → Among (option_map_or (λ row. with_none s out number (map (count_of s) row.arguments)) o []) r → (number ≡ r.number) × IsKept s out r
      go None in_ = absurd in_
      go (Some row) in_ = let (a, b, c, d, is, has) = none-is s out number (map (count_of s) row.arguments) r in_ in (ap (λ (q : Rule). q.number) is, has)

  number-apart : (number : ℕ) → Apart (of_number s out number)
  number-apart number = go (row_of number)
    where
      go : (o : Option Row) → Apart (option_map_or (λ row. with_none s out number (map (count_of s) row.arguments)) o [])
      go None = tt
      go (Some row) = none-apart s out number (map (count_of s) row.arguments)

  only : (r : Rule) → Among (instances s out) r → IsKept s out r
  only r in_ = let (number, low, high, at) = flat-among (of_number s out) 0 (MAX_RULE + 1) r in_ in (number-is number r at).1

  -- the rules that have a clause are listed
  pub instances-listed : ListsRules s out (instances s out)
  instances-listed = record {
    only = λ k d low. only (slice_index_or (instances s out) k d) (among-at (instances s out) k d low);
    once = apart-pairs (instances s out) (apart-flat (of_number s out) (λ r. r.number) number-apart (λ number r in_. sym (number-is number r in_).0) 0 (MAX_RULE + 1));
    every = λ rule c is stays. place-of (instances s out) rule (every rule c is stays);
  }
