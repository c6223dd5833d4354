-- How many literals the clause of a rule has at most.
use Rattle.std.proofs.Common.{◌≡◌, refl, subst, ℕ, ◌+◌, ◌≤◌, Bool, true, false, ◌||◌, if◌then◌else◌, List, [], ◌∷◌, length, Option, Some, None, Ok, Err, arith}
use Rattle.std.specs.Prelude.{slice_get}
use Rattle.std.specs.Option.{option_map_or}
use Rattle.std.proofs.lemmas.List.{length-map}
use Rattle.mt_model.specs.State.{Change}
use Rattle.axiom_rules.specs.declared.fault.RuleFault.{RuleFault}
use Rattle.axiom_rules.specs.declared.fault.RuleFault.TheVariants.{Kind, NoRule, Range}
use Rattle.axiom_rules.specs.declared.literal.Literal.{Literal}
use Rattle.axiom_rules.specs.declared.part.Part.{Part}
use Rattle.axiom_rules.specs.declared.proposition.PropositionRows.{PropositionRows}
use Rattle.axiom_rules.specs.declared.reach.Reach.{Reach}
use Rattle.axiom_rules.specs.declared.rule.Rule.{Rule}
use Rattle.axiom_rules.specs.declared.shape.Shape.{Shape}
use Rattle.axiom_rules.specs.ClauseLengths.{most_literals}
use Rattle.axiom_rules.specs.Clauses.{EachEvent, EachPulse, Five, Row, Two, Width, arg, clause_of, row_of, width_of}
use Rattle.axiom_rules.specs.NodeShapes.{is_constant, pulses_in, proposition_in, shape_at}
use Rattle.axiom_rules.specs.Parts.{Written, same}
use Rattle.axiom_rules.specs.Rules.{at_pulses, is_pulse_row, of_kind}
use Rattle.axiom_rules.specs.Sought.{Sought}
use Rattle.axiom_rules.proofs.PartsMade.{clause-short}
use Rattle.axiom_rules.proofs.RowCases.{row-case, written-by}
use Rattle.axiom_rules.proofs.RulesMade.{few-by-number}
use Rattle.mtl_encode.proofs.ChangeRules.{pulses-told}
use Rattle.mtl_encode.specs.Growth.{most_in, most_of, pulse_count}

-- so many parts are written at most
abbrev HasAtMost : ℕ → Written → Type 0
HasAtMost n w = (parts : List Part) → w ≡ Ok parts → length parts ≤ n

at-most : (n : ℕ) (xs : List Part) → length xs ≤ n → HasAtMost n (Ok xs)
at-most n xs few parts is = let equal : xs ≡ parts = cc in subst (λ (ps : List Part). length ps ≤ n) equal few

none-written : (n : ℕ) (fault : RuleFault) → HasAtMost n (Err fault)
none-written n fault parts is = absurd (cc)

kind-most : {X : Type 0} (n : ℕ) (o : Option X) (write : X → Written) → ((x : X) → o ≡ Some x → HasAtMost n (write x)) → HasAtMost n (of_kind o write)
kind-most n None write each = none-written n Kind
kind-most n (Some x) write each = each x refl

option-most : {X : Type 0} (n : ℕ) (o : Option X) (write : X → Written) (fault : RuleFault) → ((x : X) → HasAtMost n (write x)) → HasAtMost n (option_map_or write o (Err fault))
option-most n None write fault each = none-written n fault
option-most n (Some x) write fault each = each x

if-most : (n : ℕ) (b : Bool) (xs : List Part) (fault : RuleFault) → length xs ≤ n → HasAtMost n (let w : Written = (if b then Ok xs else Err fault) in w)
if-most n true xs fault few = at-most n xs few
if-most n false xs fault few = none-written n fault

-- the pulses of a proposition, counted
rows-counted : (o : Option Shape) (rows : PropositionRows) → proposition_in o ≡ Some rows → option_map_or (λ pulses. length pulses) (pulses_in o) 0 ≡ length rows.pulses
rows-counted o rows is = rw (pulses-told o rows is) refl

at-pulses-count : (pulses : List ℕ) (e : ℕ) → length (at_pulses pulses e) ≡ length pulses
at-pulses-count pulses e = length-map pulses (λ u. same u e)

module _ (s : Sought) where
  -- the rules with two literals
  abbrev IsShort : ℕ → Row → Type 0
  IsShort n row = width_of n ≡ Some Two → (args : List ℕ) → HasAtMost 2 (row.writes s args)

  short-rows : (number : ℕ) (row : Row) → row_of number ≡ Some row → IsShort number row
  short-rows = row-case IsShort ((λ h. absurd (cc)), ((λ h. absurd (cc)), ((λ h args. if-most 2 (is_constant (shape_at s (arg args 0))) _ Kind (omega arith)), ((λ h args. kind-most 2 _ _ (λ (a : ℕ) is. at-most 2 _ (omega arith))), ((λ h args. kind-most 2 _ _ (λ (a : ℕ) is. at-most 2 _ (omega arith))), ((λ h args. kind-most 2 _ _ (λ (sides : ℕ × ℕ) is. at-most 2 _ (omega arith))), ((λ h args. kind-most 2 _ _ (λ (sides : ℕ × ℕ) is. at-most 2 _ (omega arith))), ((λ h. absurd (cc)), ((λ h args. at-most 2 _ (omega arith)), ((λ h. absurd (cc)), ((λ h. absurd (cc)), ((λ h args. kind-most 2 _ _ (λ (u : Reach) is. at-most 2 _ (omega arith))), ((λ h args. kind-most 2 _ _ (λ (u : Reach) is. option-most 2 u.interval.high _ NoRule (λ b. at-most 2 _ (omega arith)))), ((λ h args. kind-most 2 _ _ (λ (u : Reach) is. at-most 2 _ (omega arith))), ((λ h args. kind-most 2 _ _ (λ (u : Reach) is. at-most 2 _ (omega arith))), ((λ h. absurd (cc)), ((λ h. absurd (cc)), ((λ h args. kind-most 2 _ _ (λ (u : Reach) is. at-most 2 _ (omega arith))), ((λ h. absurd (cc)), ((λ h. absurd (cc)), ((λ h. absurd (cc)), ((λ h args. kind-most 2 _ _ (λ (u : Reach) is. at-most 2 _ (omega arith))), ((λ h args. kind-most 2 _ _ (λ (u : Reach) is. at-most 2 _ (omega arith))), ((λ h args. at-most 2 _ (omega arith)), ((λ h args. if-most 2 (is_pulse_row s.log (arg args 0) || is_pulse_row s.log (arg args 1)) _ NoRule (omega arith)), ((λ h. absurd (cc)), ((λ h args. kind-most 2 _ _ (λ (rows : PropositionRows) is. option-most 2 (slice_get rows.pulses (arg args 2)) _ Range (λ u. at-most 2 _ (omega arith)))), ((λ h. absurd (cc)), tt))))))))))))))))))))))))))))

  -- those of a proposition with a literal for each pulse
  abbrev IsOfPulses : ℕ → Row → Type 0
  IsOfPulses n row = width_of n ≡ Some EachPulse → (args : List ℕ) → HasAtMost (pulse_count s (arg args 0) + 5) (row.writes s args)

  first-most : (k e : ℕ) (rows : PropositionRows) (p q : Part) → proposition_in (shape_at s k) ≡ Some rows → HasAtMost (pulse_count s k + 5) (Ok (p ∷ q ∷ at_pulses rows.pulses e))
  first-most k e rows p q is = at-most (pulse_count s k + 5) (p ∷ q ∷ at_pulses rows.pulses e) (omega (arith, rows-counted (shape_at s k) rows is, at-pulses-count rows.pulses e))

  second-most : (k e : ℕ) (rows : PropositionRows) (sets : Bool) (p q r : Part) → proposition_in (shape_at s k) ≡ Some rows
      → HasAtMost (pulse_count s k + 5) (Ok (p ∷ q ∷ r ∷ at_pulses (if sets then [] else rows.pulses) e))
  second-most k e rows true p q r is = at-most (pulse_count s k + 5) (p ∷ q ∷ r ∷ []) (omega arith)
  second-most k e rows false p q r is = at-most (pulse_count s k + 5) (p ∷ q ∷ r ∷ at_pulses rows.pulses e) (omega (arith, rows-counted (shape_at s k) rows is, at-pulses-count rows.pulses e))

  pulse-rows : (number : ℕ) (row : Row) → row_of number ≡ Some row → IsOfPulses number row
  pulse-rows = row-case IsOfPulses ((λ h args. kind-most _ _ _ (λ (rows : PropositionRows) is. first-most (arg args 0) (arg args 1) rows _ _ is)), ((λ h args. kind-most _ _ _ (λ (rows : PropositionRows) is. option-most _ _ _ Range (λ (c : Change). second-most (arg args 0) (arg args 1) rows c.sets _ _ _ is))), ((λ h. absurd (cc)), ((λ h. absurd (cc)), ((λ h. absurd (cc)), ((λ h. absurd (cc)), ((λ h. absurd (cc)), ((λ h. absurd (cc)), ((λ h. absurd (cc)), ((λ h. absurd (cc)), ((λ h. absurd (cc)), ((λ h. absurd (cc)), ((λ h. absurd (cc)), ((λ h. absurd (cc)), ((λ h. absurd (cc)), ((λ h. absurd (cc)), ((λ h. absurd (cc)), ((λ h. absurd (cc)), ((λ h. absurd (cc)), ((λ h. absurd (cc)), ((λ h. absurd (cc)), ((λ h. absurd (cc)), ((λ h. absurd (cc)), ((λ h. absurd (cc)), ((λ h. absurd (cc)), ((λ h. absurd (cc)), ((λ h. absurd (cc)), ((λ h. absurd (cc)), tt))))))))))))))))))))))))))))

  -- a clause has at most the literals of its rule
  pub few-in : (rule : Rule) (c : List Literal) → clause_of s rule ≡ Ok c → length c ≤ most_in s rule
  few-in rule c is = go (width_of rule.number) refl
    where
      few : length c ≤ most_literals s rule.number
      few = few-by-number s rule c is

      go : (o : Option Width) → width_of rule.number ≡ o → length c ≤ option_map_or (most_of s (arg rule.args 0)) o 5
      go None width = rw width at few
      go (Some Two) width =
          let w = written-by s rule c is in
          omega (arith, clause-short w.parts c w.clause, short-rows rule.number w.row w.at width rule.args w.parts w.written)
      go (Some Five) width = rw width at few
      go (Some EachPulse) width =
          let w = written-by s rule c is in
          omega (arith, clause-short w.parts c w.clause, pulse-rows rule.number w.row w.at width rule.args w.parts w.written)
      go (Some EachEvent) width = rw width at few
