-- The arguments that a rule with a clause doesn't use are 0, and no rule has a greater number than the last row.
use Rattle.std.proofs.Common.{◌≡◌, refl, ℕ, zero, suc, ◌<◌, ◌≤◌, true, List, [], ◌∷◌, drop, Option, Some, None, Ok, arith}
use Rattle.std.specs.Prelude.{All, count_by}
use Rattle.std.specs.Option.{option_map_or}
use Rattle.std.proofs.lemmas.Bool.{eqb-true}
use Rattle.std.proofs.lemmas.List.Elements.{All-nil, All-cons}
use Rattle.std.proofs.lemmas.Option.{slice_get_within}
use Rattle.axiom_rules.specs.declared.literal.Literal.{Literal}
use Rattle.axiom_rules.specs.declared.rule.Argument.TheVariants.{ANode, AnEvent, AChange, APulse, Unused}
use Rattle.axiom_rules.specs.declared.rule.Rule.{Rule}
use Rattle.axiom_rules.specs.declared.rule.TheConstants.{MAX_RULE}
use Rattle.axiom_rules.specs.Clauses.{Row, are_there, argument_count, clause_of, is_there, is_used, of_event, of_events, of_node_event, of_node_event_change, of_node_event_pulse, of_node_events, of_node_three_events, of_nothing, row_of, rows}
use Rattle.axiom_rules.specs.Parts.{Written}
use Rattle.axiom_rules.specs.Rules.{rule_2, rule_27}
use Rattle.axiom_rules.specs.Sought.{Sought}
use Rattle.axiom_rules.proofs.RowCases.{four, shape-case, written-by}

abbrev IsZero : ℕ → Type 0
IsZero n = n ≡ 0

module _ (s : Sought) where
  -- the arguments that the row doesn't use are 0
  abbrev IsFilled : Row → Type 0
  IsFilled row = (args : List ℕ) → are_there s row.arguments args ≡ true → All IsZero (drop (count_by is_used row.arguments) args)

  zero-there : (n : ℕ) → is_there s Unused n ≡ true → n ≡ 0
  zero-there n is = eqb-true n 0 is

  none-left : All IsZero []
  none-left = All-nil IsZero

  one-left : (d : ℕ) → is_there s Unused d ≡ true → All IsZero (d ∷ [])
  one-left d in-d = All-cons IsZero d [] (zero-there d in-d) none-left

  two-left : (c d : ℕ) → is_there s Unused c ≡ true → is_there s Unused d ≡ true → All IsZero (c ∷ d ∷ [])
  two-left c d in-c in-d = All-cons IsZero c (d ∷ []) (zero-there c in-c) (one-left d in-d)

  three-left : (b c d : ℕ) → is_there s Unused b ≡ true → is_there s Unused c ≡ true → is_there s Unused d ≡ true → All IsZero (b ∷ c ∷ d ∷ [])
  three-left b c d in-b in-c in-d = All-cons IsZero b (c ∷ d ∷ []) (zero-there b in-b) (two-left c d in-c in-d)

  nothing-filled : (w : Sought → Written) → IsFilled (of_nothing w)
  nothing-filled w args there =
      let (a, b, c, d, are, in-a, in-b, in-c, in-d) = four s Unused Unused Unused Unused args there in
      rw are (All-cons IsZero a (b ∷ c ∷ d ∷ []) (zero-there a in-a) (three-left b c d in-b in-c in-d))

  event-filled : (w : Sought → ℕ → Written) → IsFilled (of_event w)
  event-filled w args there =
      let (a, b, c, d, are, in-a, in-b, in-c, in-d) = four s AnEvent Unused Unused Unused args there in
      rw are (three-left b c d in-b in-c in-d)

  events-filled : (w : Sought → ℕ → ℕ → Written) → IsFilled (of_events w)
  events-filled w args there =
      let (a, b, c, d, are, in-a, in-b, in-c, in-d) = four s AnEvent AnEvent Unused Unused args there in
      rw are (two-left c d in-c in-d)

  node-filled : (w : Sought → ℕ → ℕ → Written) → IsFilled (of_node_event w)
  node-filled w args there =
      let (a, b, c, d, are, in-a, in-b, in-c, in-d) = four s ANode AnEvent Unused Unused args there in
      rw are (two-left c d in-c in-d)

  change-filled : (w : Sought → ℕ → ℕ → ℕ → Written) → IsFilled (of_node_event_change w)
  change-filled w args there =
      let (a, b, c, d, are, in-a, in-b, in-c, in-d) = four s ANode AnEvent AChange Unused args there in
      rw are (one-left d in-d)

  pulse-filled : (w : Sought → ℕ → ℕ → ℕ → Written) → IsFilled (of_node_event_pulse w)
  pulse-filled w args there =
      let (a, b, c, d, are, in-a, in-b, in-c, in-d) = four s ANode AnEvent APulse Unused args there in
      rw are (one-left d in-d)

  two-filled : (w : Sought → ℕ → ℕ → ℕ → Written) → IsFilled (of_node_events w)
  two-filled w args there =
      let (a, b, c, d, are, in-a, in-b, in-c, in-d) = four s ANode AnEvent AnEvent Unused args there in
      rw are (one-left d in-d)

  three-filled : (w : Sought → ℕ → ℕ → ℕ → ℕ → Written) → IsFilled (of_node_three_events w)
  three-filled w args there =
      let (a, b, c, d, are, in-a, in-b, in-c, in-d) = four s ANode AnEvent AnEvent AnEvent args there in
      rw are none-left

  -- the arguments that a rule with a clause doesn't use are 0
  pub unused-zero : (rule : Rule) (c : List Literal) → clause_of s rule ≡ Ok c → All IsZero (drop (argument_count rule.number) rule.args)
  unused-zero rule c is =
      let w = written-by s rule c is in
      let filled =
      shape-case IsFilled nothing-filled event-filled events-filled node-filled two-filled three-filled (change-filled rule_2) (pulse-filled rule_27) rule.number w.row w.at rule.args w.there in
      rw w.at filled

-- a number that has a row is at most that of the last one
pub number-low : (number : ℕ) (row : Row) → row_of number ≡ Some row → number ≤ MAX_RULE
number-low zero row at = omega arith
number-low (suc n) row at = let low : n < MAX_RULE = slice_get_within rows n row at in omega (arith, low)

-- no rule uses more than four arguments
pub at-most-four : (number : ℕ) → argument_count number ≤ 4
at-most-four number = go (row_of number) refl
  where
    go : (o : Option Row) → row_of number ≡ o → option_map_or (λ row. count_by is_used row.arguments) o 0 ≤ 4
    go None at = omega arith
    go (Some row) at =
        shape-case (λ row. count_by is_used row.arguments ≤ 4) (λ w. omega arith) (λ w. omega arith) (λ w. omega arith) (λ w. omega arith) (λ w. omega arith)
        (λ w. omega arith) (omega arith) (omega arith) number row at
