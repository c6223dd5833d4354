-- The rules 12 to 23, and 28, have no clause for a node that is no until and no since.
use Rattle.std.proofs.Common.{◌≡◌, refl, ℕ, zero, suc, Bool, true, false, if◌then◌else◌, List, [], ◌∷◌, Option, Some, None, Err}
use Rattle.std.specs.Prelude.{Result, is_ok, option_and_then, slice_get, slice_index}
use Rattle.mt_model.specs.Form.{Form, True, False, Prop, Not, And, Or, Implies, Until, Since, Eventually, Always, Once, Historically}
use Rattle.formula_arena.specs.Nodes.{tree_at}
use Rattle.axiom_rules.specs.declared.fault.RuleFault.TheVariants.{Kind, Range}
use Rattle.axiom_rules.specs.declared.literal.Literal.{Literal}
use Rattle.axiom_rules.specs.declared.fault.RuleFault.{RuleFault}
use Rattle.axiom_rules.specs.declared.rule.Rule.{Rule}
use Rattle.axiom_rules.specs.Clauses.{Row, are_there, row_of}
use Rattle.axiom_rules.specs.NodeShapes.{reach_in, shape_at, shape_of}
use Rattle.axiom_rules.specs.Parts.{clause_of_written}
use Rattle.axiom_rules.specs.Sought.{Sought}
use Rattle.axiom_rules.proofs.RowCases.{row-case}
use Rattle.mtl_encode.proofs.RangeLemmas.{flat-nothing}
use Rattle.mtl_encode.specs.Instances.{is_of_reach, kept, rule_at, with_one, with_three, with_two}
use Rattle.question.specs.Size.{is_reach}

module _ (s : Sought) (out : Rule → Bool) (k : ℕ) (none : reach_in (shape_at s k) ≡ None) where
  -- the row writes nothing of the node
  abbrev IsOfReach : Row → Type 0
  IsOfReach row = (b c d : ℕ) → row.writes s (k ∷ b ∷ c ∷ d ∷ []) ≡ Err Kind

  reach-rows : (number : ℕ) (row : Row) → row_of number ≡ Some row → is_of_reach number ≡ true → IsOfReach row
  reach-rows = row-case (λ n row. is_of_reach n ≡ true → IsOfReach row) ((λ h. absurd (cc)), ((λ h. absurd (cc)), ((λ h. absurd (cc)), ((λ h. absurd (cc)), ((λ h. absurd (cc)), ((λ h. absurd (cc)), ((λ h. absurd (cc)), ((λ h. absurd (cc)), ((λ h. absurd (cc)), ((λ h. absurd (cc)), ((λ h. absurd (cc)), ((λ h b c d. rw none refl), ((λ h b c d. rw none refl), ((λ h b c d. rw none refl), ((λ h b c d. rw none refl), ((λ h b c d. rw none refl), ((λ h b c d. rw none refl), ((λ h b c d. rw none refl), ((λ h b c d. rw none refl), ((λ h b c d. rw none refl), ((λ h b c d. rw none refl), ((λ h b c d. rw none refl), ((λ h b c d. rw none refl), ((λ h. absurd (cc)), ((λ h. absurd (cc)), ((λ h. absurd (cc)), ((λ h. absurd (cc)), ((λ h b c d. rw none refl), tt))))))))))))))))))))))))))))

  kept-nothing : (number b c d : ℕ) → is_of_reach number ≡ true → kept s out (rule_at number k b c d) ≡ []
  kept-nothing number b c d of = go (row_of number) refl
    where
      arguments : (row : Row) (there : Bool) → row.writes s (k ∷ b ∷ c ∷ d ∷ []) ≡ Err Kind
          → (let r : Result (List Literal) RuleFault = (if there then clause_of_written (row.writes s (k ∷ b ∷ c ∷ d ∷ [])) else Err Range) in is_ok r) ≡ false
      arguments row true is = rw is refl
      arguments row false is = refl

      go : (o : Option Row) → row_of number ≡ o → kept s out (rule_at number k b c d) ≡ []
      go None at = rw at refl
      go (Some row) at = rw (at, arguments row (are_there s row.arguments (k ∷ b ∷ c ∷ d ∷ [])) (reach-rows number row at of b c d)) refl

  pub one-nothing : (number : ℕ) (counts : List ℕ) → is_of_reach number ≡ true → with_one s out number counts k ≡ []
  one-nothing number counts of =
      flat-nothing (with_two s out number counts k) 0 (slice_index counts 1) (λ b low-b high-b.
      flat-nothing (with_three s out number counts k b) 0 (slice_index counts 2) (λ c low-c high-c.
      flat-nothing (λ d. kept s out (rule_at number k b c d)) 0 (slice_index counts 3) (λ d low-d high-d. kept-nothing number b c d of)))

-- a tree that is no until and no since is none by its shape
pub no-reach : (s : Sought) (k : ℕ) → is_reach (tree_at s.trees k) ≡ false → reach_in (shape_at s k) ≡ None
no-reach s k fails = go s.trees k fails
  where
    tree : (f : Form) → is_reach f ≡ false → reach_in (shape_of s.log s.trees f) ≡ None
    tree True fails = refl
    tree False fails = refl
    tree (Prop host name) fails = refl
    tree (Not f) fails = refl
    tree (And f g) fails = refl
    tree (Or f g) fails = refl
    tree (Implies f g) fails = refl
    tree (Until I f g) fails = absurd (cc)
    tree (Since I f g) fails = absurd (cc)
    tree (Eventually I f) fails = refl
    tree (Always I f) fails = refl
    tree (Once I f) fails = refl
    tree (Historically I f) fails = refl

    go : (trees : List Form) (k : ℕ) → is_reach (tree_at trees k) ≡ false → reach_in (option_and_then (shape_of s.log s.trees) (slice_get trees k)) ≡ None
    go [] k fails = refl
    go (f ∷ trees) zero fails = tree f fails
    go (f ∷ trees) (suc k) fails = go trees k fails
