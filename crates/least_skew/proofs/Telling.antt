-- What right answers tell of the values that a formula can have.
use Rattle.std.proofs.Common.{refl, arith, ℕ, ◌-◌, ◌<◌, ◌≤◌, Bool, List, Option, Some, None}
use Rattle.mt_model.specs.Form.{Form}
use Rattle.mt_model.specs.Laws.{ConflictExcludesTimings}
use Rattle.mt_model.specs.Log.{IsLog, Logged}
use Rattle.mt_model.specs.Truth.{IsValue}
use Rattle.skew_bounds.specs.Tight.{IsConsistent, IsInconsistent}
use Rattle.proof_log.specs.declared.line.Line.{Line}
use Rattle.proof_log.specs.FreshLaws.{RefutedByRulesIsNotSpent, SpentIsBounded}
use Rattle.proof_check.specs.Laws.{RefutedIsNoValue}
use Rattle.best_answer.proofs.Spending.{could-be-spent}
use Rattle.least_skew.specs.declared.tolerance.Tolerance.{Tolerance}
use Rattle.least_skew.specs.declared.tolerance.Tolerance.TheVariants as tolerance
use Rattle.least_skew.specs.declared.widening.TheConstants.{MAX_WIDENING}
use Rattle.least_skew.specs.Laws.{RightTolerancesAreLeast}
use Rattle.least_skew.specs.Least.{HasWrittenSkews, IsBelow, LeastRight, wide}
use Rattle.least_skew.specs.Told.{IsInconsistentExactly, Tells}
use Rattle.least_skew.proofs.Widenings.{skews-may-grow}
use Rattle.least_skew.proofs.ValidWidenings.{wide-valid}
use Rattle.least_skew.proofs.Sames.{values-may-grow}

module _ (refutes : RefutedIsNoValue) (bounded : SpentIsBounded) (by_rules : RefutedByRulesIsNotSpent) (excludes : ConflictExcludesTimings) where
  module _ (log : Logged) (f : Form) (v : Bool) (max budget : ℕ) (valid : IsLog log) (written : HasWrittenSkews log) (range : max ≤ MAX_WIDENING) (some : 1 ≤ budget) where
    none-below : (s : ℕ) (below : Option (List Line)) → s ≤ max → IsBelow log f v budget s below → (r : ℕ) → r < s → IsValue (wide r log) f v → ⊥
    none-below s None within is r less value = absurd (omega (arith, is, less))
    none-below s (Some lines) within is r less value =
        refutes (wide (s - 1) log) f v lines (wide-valid log (s - 1) valid written (omega (arith, within, range))) is.1.refutes
        (values-may-grow log f v r (s - 1) (omega (arith, less)) value)

    tells : (answer : Tolerance) → LeastRight log f v max budget answer → Tells log f v max budget answer
    tells (tolerance.Least s times below) right = record {
      can = record { timing = times; admissible = right.gives.admissible; value = right.gives.value };
      none_below = none-below s below right.within right.refuted;
    }
    tells (tolerance.Never lines) right = λ r within value.
        refutes (wide max log) f v lines (wide-valid log max valid written range) right.refuted.refutes (values-may-grow log f v r max within value)
    tells (tolerance.Inconsistent steps) right = λ t ok. excludes (wide max log) steps t right.bounds right.conflict ok
    tells (tolerance.Unknown s lines) right = could-be-spent bounded by_rules (wide s log) f v budget lines some right.spent

  -- with the greatest widening a timing is admissible where one is with a smaller one
  consistent-at : (log : Logged) (s max : ℕ) → s ≤ max → IsConsistent (wide s log) → IsInconsistent (wide max log) → ⊥
  consistent-at log s max within consistent none = none consistent.timing (skews-may-grow.further log s max consistent.timing within consistent.admissible)

  exactly : (log : Logged) (f : Form) (v : Bool) (max budget : ℕ) (answer : Tolerance) → LeastRight log f v max budget answer → IsInconsistentExactly log max answer
  exactly log f v max budget (tolerance.Least s times below) right =
      (λ is. absurd (cc), λ none. absurd (consistent-at log s max right.within (record { timing = times; admissible = right.gives.admissible }) none))
  exactly log f v max budget (tolerance.Never lines) right = (λ is. absurd (cc), λ none. absurd (none right.consistent.timing right.consistent.admissible))
  exactly log f v max budget (tolerance.Inconsistent steps) right = (λ is t ok. excludes (wide max log) steps t right.bounds right.conflict ok, λ none. refl)
  exactly log f v max budget (tolerance.Unknown s lines) right = (λ is. absurd (cc), λ none. absurd (consistent-at log s max right.within right.spent.consistent none))

  pub right-least : RightTolerancesAreLeast
  right-least = record {
    tells = λ log f v max budget answer valid written range some right. tells log f v max budget valid written range some answer right;
    exactly = exactly;
  }
