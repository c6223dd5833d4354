-- What lines that spend a budget say of it.
use Rattle.std.proofs.Common.{arith, ℕ, ◌≤◌, Bool, List}
use Rattle.mt_model.specs.Form.{Form}
use Rattle.mt_model.specs.Log.{Logged}
use Rattle.proof_log.specs.declared.line.Line.{Line}
use Rattle.proof_log.specs.FreshLaws.{RefutedByRulesIsNotSpent, SpentIsBounded}
use Rattle.cdcl_core.specs.Values.{SpendsWithin}
use Rattle.cdcl_core.proofs.KeptLists.{kept_refuted}
use Rattle.cdcl_core.specs.Spent.{CanBeSpent}

-- a budget of which lines show that it was spent can be
pub could-be-spent : SpentIsBounded → RefutedByRulesIsNotSpent → (log : Logged) (f : Form) (v : Bool) (budget : ℕ) (lines : List Line) → 1 ≤ budget
    → SpendsWithin log f v budget lines → CanBeSpent log f v budget
could-be-spent bounded by_rules log f v budget lines some spent = record {
  bounded = λ atoms all. bounded.by_rules log f v spent.rules budget lines atoms spent.spends all;
  not_refuted = λ rules kept refuted.
      let none = by_rules.none_spent log f v spent.rules budget lines (kept_refuted log f v rules spent.rules kept spent.kept refuted) spent.spends in
      omega (arith, none, some);
}
