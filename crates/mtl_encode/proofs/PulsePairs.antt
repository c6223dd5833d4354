-- The rules on pairs of events of which one is a pulse have no clause for others.
use Rattle.std.proofs.Common.{◌≡◌, ◌∙◌, sym, ap, refl, ℕ, zero, suc, ◌+◌, ◌≤◌, Bool, true, false, not, ◌&&◌, if◌then◌else◌, List, [], ◌∷◌, length, map, take, Option, Some, None, Err, arith, option_map}
use Rattle.std.specs.Prelude.{Result, is_ok, nat_lt, slice_index}
use Rattle.std.specs.List.{flat_map, range_with_len}
use Rattle.std.proofs.lemmas.Bool.{and_parts}
use Rattle.axiom_rules.specs.declared.fault.RuleFault.{RuleFault}
use Rattle.axiom_rules.specs.declared.fault.RuleFault.TheVariants.{Range}
use Rattle.axiom_rules.specs.declared.literal.Literal.{Literal}
use Rattle.axiom_rules.specs.declared.rule.Argument.TheVariants.{AnEvent, Unused}
use Rattle.axiom_rules.specs.declared.rule.Rule.{Rule}
use Rattle.axiom_rules.specs.Clauses.{Row, are_there, clause_of, row_of}
use Rattle.axiom_rules.specs.Parts.{clause_of_written}
use Rattle.axiom_rules.specs.Rules.{is_pulse_row, rule_25, rule_26}
use Rattle.axiom_rules.specs.Sought.{Sought}
use Rattle.axiom_rules.proofs.RowCases.{row-case, shape-case}
use Rattle.mtl_encode.proofs.ChangeRules.{clauseless}
use Rattle.mtl_encode.proofs.ListedNumbers.{flat-filtered}
use Rattle.mtl_encode.proofs.RangeLemmas.{flat-nothing}
use Rattle.mtl_encode.specs.Seconds.{AreCounts}
use Rattle.mtl_encode.specs.Instances.{count_of, is_of_pulses, kept, pulse_rows, rule_at, with_one, with_three, with_two}

take-range : (n m a : ℕ) → n ≤ m → take n (range_with_len a m) ≡ range_with_len a n
take-range zero m a few = refl
take-range (suc n) zero a few = absurd (omega (arith, few))
take-range (suc n) (suc m) a few = ap (λ (xs : List ℕ). a ∷ xs) (take-range n m (a + 1) (omega (arith, few)))

module _ (s : Sought) where
  -- two events of which none is a pulse
  module _ (a b c d : ℕ) (first : is_pulse_row s.log a ≡ false) (second : is_pulse_row s.log b ≡ false) where
    unpaired-25 : is_ok (clause_of s (rule_at 25 a b c d)) ≡ false
    unpaired-25 = go (are_there s (AnEvent ∷ AnEvent ∷ Unused ∷ Unused ∷ []) (a ∷ b ∷ c ∷ d ∷ []))
      where
        go : (there : Bool) → is_ok (let r : Result (List Literal) RuleFault = (if there then clause_of_written (rule_25 s a b) else Err Range) in r) ≡ false
        go true = rw (first, second) refl
        go false = refl

    unpaired-26 : is_ok (clause_of s (rule_at 26 a b c d)) ≡ false
    unpaired-26 = go (are_there s (AnEvent ∷ AnEvent ∷ Unused ∷ Unused ∷ []) (a ∷ b ∷ c ∷ d ∷ [])) (nat_lt a b) refl
      where
        go : (there less : Bool) → nat_lt a b ≡ less → is_ok (let r : Result (List Literal) RuleFault = (if there then clause_of_written (rule_26 s a b) else Err Range) in r) ≡ false
        go true true is = rw (is, first, second) refl
        go true false is = rw is refl
        go false less is = refl

    unpaired-row : (number : ℕ) (row : Row) → row_of number ≡ Some row → is_of_pulses number ≡ true → is_ok (clause_of s (rule_at number a b c d)) ≡ false
    unpaired-row = row-case (λ n row. is_of_pulses n ≡ true → is_ok (clause_of s (rule_at n a b c d)) ≡ false) ((λ h. absurd (cc)), ((λ h. absurd (cc)), ((λ h. absurd (cc)), ((λ h. absurd (cc)), ((λ h. absurd (cc)), ((λ h. absurd (cc)), ((λ h. absurd (cc)), ((λ h. absurd (cc)), ((λ h. absurd (cc)), ((λ h. absurd (cc)), ((λ h. absurd (cc)), ((λ h. absurd (cc)), ((λ h. absurd (cc)), ((λ h. absurd (cc)), ((λ h. absurd (cc)), ((λ h. absurd (cc)), ((λ h. absurd (cc)), ((λ h. absurd (cc)), ((λ h. absurd (cc)), ((λ h. absurd (cc)), ((λ h. absurd (cc)), ((λ h. absurd (cc)), ((λ h. absurd (cc)), ((λ h. absurd (cc)), ((λ h. unpaired-25), ((λ h. unpaired-26), ((λ h. absurd (cc)), ((λ h. absurd (cc)), tt))))))))))))))))))))))))))))

    unpaired : (number : ℕ) → is_of_pulses number ≡ true → is_ok (clause_of s (rule_at number a b c d)) ≡ false
    unpaired number of = go (row_of number) refl
      where
        go : (o : Option Row) → row_of number ≡ o → is_ok (clause_of s (rule_at number a b c d)) ≡ false
        go None at = rw at refl
        go (Some row) at = unpaired-row number row at of

  -- the second arguments are below the number of events, of pairs all of them
  pub first-few : 1 ≤ length s.log.rows → (number : ℕ) (counts : List ℕ) → AreCounts s number counts → slice_index counts 1 ≤ length s.log.rows
  first-few some number counts are = go (row_of number) refl are
    where
      few : (number : ℕ) (row : Row) → row_of number ≡ Some row → slice_index (map (count_of s) row.arguments) 1 ≤ length s.log.rows
      few =
          shape-case (λ row. slice_index (map (count_of s) row.arguments) 1 ≤ length s.log.rows) (λ w. some) (λ w. some) (λ w. omega arith) (λ w. omega arith)
          (λ w. omega arith) (λ w. omega arith) (omega arith) (omega arith)

      go : (o : Option Row) → row_of number ≡ o → Some counts ≡ option_map (λ row. map (count_of s) row.arguments) o → slice_index counts 1 ≤ length s.log.rows
      go None at is = absurd (cc)
      go (Some row) at is = let same : counts ≡ map (count_of s) row.arguments = cc in rw same (few number row at)

  pair-rows : (number : ℕ) (row : Row) → row_of number ≡ Some row → is_of_pulses number ≡ true → slice_index (map (count_of s) row.arguments) 1 ≡ length s.log.rows
  pair-rows = row-case (λ n row. is_of_pulses n ≡ true → slice_index (map (count_of s) row.arguments) 1 ≡ length s.log.rows) ((λ h. absurd (cc)), ((λ h. absurd (cc)), ((λ h. absurd (cc)), ((λ h. absurd (cc)), ((λ h. absurd (cc)), ((λ h. absurd (cc)), ((λ h. absurd (cc)), ((λ h. absurd (cc)), ((λ h. absurd (cc)), ((λ h. absurd (cc)), ((λ h. absurd (cc)), ((λ h. absurd (cc)), ((λ h. absurd (cc)), ((λ h. absurd (cc)), ((λ h. absurd (cc)), ((λ h. absurd (cc)), ((λ h. absurd (cc)), ((λ h. absurd (cc)), ((λ h. absurd (cc)), ((λ h. absurd (cc)), ((λ h. absurd (cc)), ((λ h. absurd (cc)), ((λ h. absurd (cc)), ((λ h. absurd (cc)), ((λ h. refl), ((λ h. refl), ((λ h. absurd (cc)), ((λ h. absurd (cc)), tt))))))))))))))))))))))))))))

  pair-counts : (number : ℕ) (counts : List ℕ) → is_of_pulses number ≡ true → AreCounts s number counts → slice_index counts 1 ≡ length s.log.rows
  pair-counts number counts of are = go (row_of number) refl are
    where
      go : (o : Option Row) → row_of number ≡ o → Some counts ≡ option_map (λ row. map (count_of s) row.arguments) o → slice_index counts 1 ≡ length s.log.rows
      go None at is = absurd (cc)
      go (Some row) at is = let same : counts ≡ map (count_of s) row.arguments = cc in rw same (pair-rows number row at of)

  -- with an event that is no pulse, the pulses are enough
  pulses-enough : (out : Rule → Bool) (number : ℕ) (counts : List ℕ) (a : ℕ) → is_of_pulses number ≡ true → slice_index counts 1 ≡ length s.log.rows → is_pulse_row s.log a ≡ false
      → with_one s out number counts a ≡ flat_map (with_two s out number counts a) (pulse_rows s)
  pulses-enough out number counts a of count fails =
      rw count (flat-filtered (with_two s out number counts a) (is_pulse_row s.log) nothing (range_with_len 0 (length s.log.rows)))
    where
      nothing : (b : ℕ) → is_pulse_row s.log b ≡ false → with_two s out number counts a b ≡ []
      nothing b other = flat-nothing (with_three s out number counts a b) 0 (slice_index counts 2) (λ c low-c high-c.
          flat-nothing (λ d. kept s out (rule_at number a b c d)) 0 (slice_index counts 3) (λ d low-d high-d. clauseless s out (rule_at number a b c d) (unpaired a b c d fails other number of)))

  -- and so they are where they are listed
  pub listed-enough : (out : Rule → Bool) (number : ℕ) (counts : List ℕ) (a : ℕ) (pulses : List ℕ) → is_of_pulses number && not (is_pulse_row s.log a) ≡ true
      → AreCounts s number counts → pulses ≡ pulse_rows s
      → with_one s out number counts a ≡ flat_map (with_two s out number counts a) pulses
  listed-enough out number counts a pulses wants are listed =
      let both = and_parts (is_of_pulses number) (not (is_pulse_row s.log a)) wants in
      pulses-enough out number counts a both.0 (pair-counts number counts both.0 are) (not-false (is_pulse_row s.log a) both.1) ∙ ap (flat_map (with_two s out number counts a)) (sym listed)
    where
      not-false : (b : Bool) → not b ≡ true → b ≡ false
      not-false true h = absurd (cc)
      not-false false h = refl

  -- and all events are
  pub all-enough : (out : Rule → Bool) (number : ℕ) (counts : List ℕ) (a : ℕ) (all firsts : List ℕ) → 1 ≤ length s.log.rows → AreCounts s number counts
      → all ≡ range_with_len 0 (length s.log.rows) → firsts ≡ take (slice_index counts 1) all
      → flat_map (with_two s out number counts a) firsts ≡ with_one s out number counts a
  all-enough out number counts a all firsts some are listed taken =
      ap (flat_map (with_two s out number counts a)) (taken ∙ ap (take (slice_index counts 1)) listed ∙ take-range (slice_index counts 1) (length s.log.rows) 0 (first-few some number counts are))
