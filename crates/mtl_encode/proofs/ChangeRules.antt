-- Rule 2 has a clause for the changes of its node alone, and rule 27 for its pulses.
use Rattle.std.proofs.Common.{◌≡◌, refl, ℕ, ◌+◌, ◌<◌, ◌≤◌, Bool, true, false, ◌&&◌, if◌then◌else◌, List, [], ◌∷◌, length, Option, Some, None, Ok, Err, arith}
use Rattle.std.specs.Prelude.{Result, is_ok, not, option_and_then, option_map, slice_get, slice_index, slice_index_or}
use Rattle.std.specs.List.{flat_map, range_with_len}
use Rattle.std.specs.Option.{option_map_or}
use Rattle.std.proofs.lemmas.Option.{slice_get_within}
use Rattle.mt_model.specs.Form.{Form}
use Rattle.axiom_rules.specs.declared.fault.RuleFault.{RuleFault}
use Rattle.axiom_rules.specs.declared.fault.RuleFault.TheVariants.{Range}
use Rattle.axiom_rules.specs.declared.literal.Literal.{Literal}
use Rattle.axiom_rules.specs.declared.part.Part.{Part}
use Rattle.axiom_rules.specs.declared.proposition.PropositionRows.{PropositionRows}
use Rattle.axiom_rules.specs.declared.rule.Argument.{Argument}
use Rattle.axiom_rules.specs.declared.rule.Argument.TheVariants.{ANode, AnEvent, AChange, APulse, Unused}
use Rattle.axiom_rules.specs.declared.rule.Rule.{Rule}
use Rattle.axiom_rules.specs.declared.shape.Shape.{Shape}
use Rattle.axiom_rules.specs.declared.shape.Shape.TheVariants as shape
use Rattle.axiom_rules.specs.Clauses.{Row, are_there, clause_of, row_of}
use Rattle.axiom_rules.specs.NodeShapes.{changes_in, proposition_in, pulses_in, shape_at, shape_of}
use Rattle.axiom_rules.specs.Parts.{Written, clause_of_written}
use Rattle.axiom_rules.specs.Rules.{of_kind, rule_2, rule_27}
use Rattle.axiom_rules.specs.Sought.{Sought}
use Rattle.axiom_rules.proofs.RowCases.{row-case}
use Rattle.mtl_encode.proofs.ChangeCounts.{tree-few}
use Rattle.mtl_encode.proofs.RangeLemmas.{flat-first, flat-nothing}
use Rattle.mtl_encode.specs.Growth.{pulse_count}
use Rattle.mtl_encode.specs.Instances.{kept, rule_at, with_three, with_two}

-- what stands at a place of a list of a node, and of which something is written, is there
pub place-there : {X Y : Type 0} (o : Option X) (list : X → List Y) (write : X → Y → Written) (place : ℕ) (parts : List Part)
    → of_kind o (λ x. option_map_or (write x) (slice_get (list x) place) (Err Range)) ≡ Ok parts → (x : X) × (o ≡ Some x) × (place < length (list x))
place-there None list write place parts is = absurd (cc)
place-there {X} {Y} (Some x) list write place parts is = (x, refl, go (slice_get (list x) place) refl is)
  where
    go : (o : Option Y) → slice_get (list x) place ≡ o → option_map_or (write x) o (Err Range) ≡ Ok parts → place < length (list x)
    go None at is = absurd (cc)
    go (Some y) at is = slice_get_within (list x) place y at

-- how many changes the proposition of a number has
abbrev pub change_count : Sought → ℕ → ℕ
change_count s k = option_map_or (λ changes. length changes) (changes_in (shape_at s k)) 0

-- the changes and the pulses of the rows that tell of a proposition
pub changes-told : (o : Option Shape) (rows : PropositionRows) → proposition_in o ≡ Some rows → changes_in o ≡ Some rows.changes
changes-told None rows is = absurd (cc)
changes-told (Some shape.True) rows is = absurd (cc)
changes-told (Some (shape.Prop host name told)) rows is = let equal : told ≡ rows = cc in rw equal refl
changes-told (Some (shape.Not a)) rows is = absurd (cc)
changes-told (Some (shape.And a b)) rows is = absurd (cc)
changes-told (Some (shape.Reach u)) rows is = absurd (cc)

pub pulses-told : (o : Option Shape) (rows : PropositionRows) → proposition_in o ≡ Some rows → pulses_in o ≡ Some rows.pulses
pulses-told None rows is = absurd (cc)
pulses-told (Some shape.True) rows is = absurd (cc)
pulses-told (Some (shape.Prop host name told)) rows is = let equal : told ≡ rows = cc in rw equal refl
pulses-told (Some (shape.Not a)) rows is = absurd (cc)
pulses-told (Some (shape.And a b)) rows is = absurd (cc)
pulses-told (Some (shape.Reach u)) rows is = absurd (cc)

-- they are no more than the rows of the log
pub few-rows : (s : Sought) (k : ℕ) (rows : PropositionRows) → proposition_in (shape_at s k) ≡ Some rows → length rows.changes + length rows.pulses ≤ length s.log.rows
few-rows s k rows = go (slice_get s.trees k)
  where
    go : (o : Option Form) → proposition_in (option_and_then (shape_of s.log s.trees) o) ≡ Some rows → length rows.changes + length rows.pulses ≤ length s.log.rows
    go None is = absurd (cc)
    go (Some f) is = rw (changes-told (shape_of s.log s.trees f) rows is, pulses-told (shape_of s.log s.trees f) rows is) at (tree-few s.log s.trees f)

module _ (s : Sought) (k e p d : ℕ) where
  -- a rule that writes nothing has no clause
  unwritten : (there : Bool) (w : Written) → ((parts : List Part) → w ≡ Ok parts → ⊥)
      → is_ok (let r : Result (List Literal) RuleFault = (if there then clause_of_written w else Err Range) in r) ≡ false
  unwritten true (Ok parts) none = absurd (none parts refl)
  unwritten true (Err fault) none = refl
  unwritten false w none = refl

  -- a change after the last one has no clause
  pub no-change : change_count s k ≤ p → is_ok (clause_of s (rule_at 2 k e p d)) ≡ false
  no-change past = unwritten (are_there s (ANode ∷ AnEvent ∷ AChange ∷ Unused ∷ []) (k ∷ e ∷ p ∷ d ∷ [])) (rule_2 s k e p) (λ parts is.
      let (rows, are, low) = place-there (proposition_in (shape_at s k)) (λ rows. rows.changes) _ p parts is in
      let few : length rows.changes ≤ p = rw (changes-told (shape_at s k) rows are) at past in
      absurd (omega (arith, low, few)))

  -- nor has a pulse
  pub no-pulse : pulse_count s k ≤ p → is_ok (clause_of s (rule_at 27 k e p d)) ≡ false
  no-pulse past = unwritten (are_there s (ANode ∷ AnEvent ∷ APulse ∷ Unused ∷ []) (k ∷ e ∷ p ∷ d ∷ [])) (rule_27 s k e p) (λ parts is.
      let (rows, are, low) = place-there (proposition_in (shape_at s k)) (λ rows. rows.pulses) _ p parts is in
      let few : length rows.pulses ≤ p = rw (pulses-told (shape_at s k) rows are) at past in
      absurd (omega (arith, low, few)))

-- the rule on changes is the one with a change for its third argument, and that on pulses the one with a pulse
change-row : (number : ℕ) (row : Row) → row_of number ≡ Some row → slice_index_or row.arguments 2 ANode ≡ AChange → number ≡ 2
change-row = row-case (λ n row. slice_index_or row.arguments 2 ANode ≡ AChange → n ≡ 2) ((λ h. absurd (cc)), ((λ h. refl), ((λ h. absurd (cc)), ((λ h. absurd (cc)), ((λ h. absurd (cc)), ((λ h. absurd (cc)), ((λ h. absurd (cc)), ((λ h. absurd (cc)), ((λ h. absurd (cc)), ((λ h. absurd (cc)), ((λ h. absurd (cc)), ((λ h. absurd (cc)), ((λ h. absurd (cc)), ((λ h. absurd (cc)), ((λ h. absurd (cc)), ((λ h. absurd (cc)), ((λ h. absurd (cc)), ((λ h. absurd (cc)), ((λ h. absurd (cc)), ((λ h. absurd (cc)), ((λ h. absurd (cc)), ((λ h. absurd (cc)), ((λ h. absurd (cc)), ((λ h. absurd (cc)), ((λ h. absurd (cc)), ((λ h. absurd (cc)), ((λ h. absurd (cc)), ((λ h. absurd (cc)), tt))))))))))))))))))))))))))))

pulse-row : (number : ℕ) (row : Row) → row_of number ≡ Some row → slice_index_or row.arguments 2 ANode ≡ APulse → number ≡ 27
pulse-row = row-case (λ n row. slice_index_or row.arguments 2 ANode ≡ APulse → n ≡ 27) ((λ h. absurd (cc)), ((λ h. absurd (cc)), ((λ h. absurd (cc)), ((λ h. absurd (cc)), ((λ h. absurd (cc)), ((λ h. absurd (cc)), ((λ h. absurd (cc)), ((λ h. absurd (cc)), ((λ h. absurd (cc)), ((λ h. absurd (cc)), ((λ h. absurd (cc)), ((λ h. absurd (cc)), ((λ h. absurd (cc)), ((λ h. absurd (cc)), ((λ h. absurd (cc)), ((λ h. absurd (cc)), ((λ h. absurd (cc)), ((λ h. absurd (cc)), ((λ h. absurd (cc)), ((λ h. absurd (cc)), ((λ h. absurd (cc)), ((λ h. absurd (cc)), ((λ h. absurd (cc)), ((λ h. absurd (cc)), ((λ h. absurd (cc)), ((λ h. absurd (cc)), ((λ h. refl), ((λ h. absurd (cc)), tt))))))))))))))))))))))))))))

module _ (number : ℕ) (arguments : List Argument) (are : Some arguments ≡ option_map (λ row. row.arguments) (row_of number)) where
  pub third-change : slice_index_or arguments 2 ANode ≡ AChange → number ≡ 2
  third-change third = go (row_of number) refl are
    where
      go : (o : Option Row) → row_of number ≡ o → Some arguments ≡ option_map (λ row. row.arguments) o → number ≡ 2
      go None at is = absurd (cc)
      go (Some row) at is = let same : arguments ≡ row.arguments = cc in change-row number row at (rw same at third)

  pub third-pulse : slice_index_or arguments 2 ANode ≡ APulse → number ≡ 27
  third-pulse third = go (row_of number) refl are
    where
      go : (o : Option Row) → row_of number ≡ o → Some arguments ≡ option_map (λ row. row.arguments) o → number ≡ 27
      go None at is = absurd (cc)
      go (Some row) at is = let same : arguments ≡ row.arguments = cc in pulse-row number row at (rw same at third)

module _ (s : Sought) (out : Rule → Bool) where
  -- a rule that has no clause isn't kept
  pub clauseless : (rule : Rule) → is_ok (clause_of s rule) ≡ false → kept s out rule ≡ []
  clauseless rule none = go (is_ok (clause_of s rule)) none
    where
      go : (ok : Bool) → ok ≡ false → (let rs : List Rule = (if ok && not (out rule) then rule ∷ [] else []) in rs) ≡ []
      go true none = absurd (cc)
      go false none = refl

  -- the first third arguments are enough where the others have no clause
  pub first-thirds : (number : ℕ) (counts : List ℕ) (n a b : ℕ) → n ≤ slice_index counts 2 → ((c d : ℕ) → n ≤ c → c < slice_index counts 2 → is_ok (clause_of s (rule_at number a b c d)) ≡ false)
      → with_two s out number counts a b ≡ flat_map (with_three s out number counts a b) (range_with_len 0 n)
  first-thirds number counts n a b few none = flat-first (with_three s out number counts a b) n (slice_index counts 2) 0 few (λ c low high.
      flat-nothing (λ d. kept s out (rule_at number a b c d)) 0 (slice_index counts 3) (λ d low-d high-d. clauseless (rule_at number a b c d) (none c d (omega (arith, low)) (omega (arith, high)))))
