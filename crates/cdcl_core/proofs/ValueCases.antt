-- What a search found says of the value.
use Rattle.std.proofs.Common.{◌≡◌, refl, arith, ℕ, ◌*◌, ◌<◌, ◌≤◌, Bool, List, [], ◌∷◌, length, All}
use Rattle.std.specs.Prelude.{ℤ}
use Rattle.mt_model.specs.declared.step.Step.{Step}
use Rattle.mt_model.specs.declared.step.Step.TheVariants.{Low, High, Rise, Message, Late, Under, Over, Extra, Order}
use Rattle.mt_model.specs.Form.{Form}
use Rattle.mt_model.specs.Laws.{IsBound}
use Rattle.mt_model.specs.Log.{IsLog, Logged}
use Rattle.mt_model.specs.Timing.{Admissible}
use Rattle.mt_model.specs.Truth.{truth}
use Rattle.skew_bounds.specs.Consistency.{IsConflict}
use Rattle.skew_bounds.specs.RowTimes.{times_of}
use Rattle.skew_bounds.specs.Tight.{IsConsistent}
use Rattle.axiom_rules.specs.declared.rule.Rule.{Rule}
use Rattle.proof_log.specs.declared.line.Line.{Line}
use Rattle.proof_log.specs.declared.line.Line.TheVariants as line
use Rattle.proof_log.specs.Derivations.{NoneWrong, Refutes, negated_step}
use Rattle.proof_log.specs.Freshness.{Spends}
use Rattle.mtl_encode.specs.Kept.{Kept}
use Rattle.std.specs.List.{filter_map}
use Rattle.std.proofs.lemmas.List.Elements.{All-head, All-tail}
use Rattle.cdcl_core.specs.Founds.{lessons}
use Rattle.cdcl_core.specs.Values.{IsSearched, RefuteEachValue}
use Rattle.cdcl_core.specs.declared.value.Searched.TheVariants as searched
use Rattle.cdcl_core.proofs.ShortWalks.{walk_spelled}

module _ (log : Logged) (f : Form) (v : Bool) (budget : ℕ) where
  pub model_found : (numbers t : List ℤ) → t ≡ times_of (length log.rows) numbers → Admissible log (times_of (length log.rows) numbers) → truth log (times_of (length log.rows) numbers) 0 f ≡ v → IsSearched log f v budget (searched.Timing t)
  model_found numbers t same admissible value = rw same (record { admissible = admissible; value = value })

  module _ (lines : List Line) where
    pub refuted_found : Refutes log f v lines → lessons lines < budget → length lines ≤ 2 * budget → IsSearched log f v budget (searched.Refuted lines)
    refuted_found refutes lessons few = record { refutes = refutes; few_lessons = lessons; few = few }

    pub spent_found : IsConsistent log → (rules : List Rule) → Kept log f v rules → Spends log f v rules budget lines → length lines ≤ 2 * budget → IsSearched log f v budget (searched.Spent lines)
    spent_found consistent rules kept spends few = record { consistent = consistent; rules = rules; kept = kept; spends = spends; few = few }

-- bounds of a log have no negations
none_negated : (steps : List Step) → All IsBound steps → filter_map negated_step steps ≡ []
none_negated [] bounds = refl
none_negated (Low e ∷ ss) bounds = none_negated ss (All-tail IsBound (Low e) ss bounds)
none_negated (High e ∷ ss) bounds = none_negated ss (All-tail IsBound (High e) ss bounds)
none_negated (Rise e ∷ ss) bounds = none_negated ss (All-tail IsBound (Rise e) ss bounds)
none_negated (Message e ∷ ss) bounds = none_negated ss (All-tail IsBound (Message e) ss bounds)
none_negated (Late e ∷ ss) bounds = none_negated ss (All-tail IsBound (Late e) ss bounds)
none_negated (Under e ∷ ss) bounds = none_negated ss (All-tail IsBound (Under e) ss bounds)
none_negated (Over e ∷ ss) bounds = none_negated ss (All-tail IsBound (Over e) ss bounds)
none_negated (Extra k ∷ ss) bounds = none_negated ss (All-tail IsBound (Extra k) ss bounds)
none_negated (Order e f c ∷ ss) bounds = absurd (All-head IsBound (Order e f c) ss bounds)

-- bounds in conflict are a line that refutes
pub conflict_refutes : (log : Logged) → IsLog log → (steps : List Step) → IsConflict log steps → RefuteEachValue log (line.Cycle steps ∷ [])
conflict_refutes log valid steps conflict f v = (
  record {
    none_wrong = good;
    last = rw (none_negated steps conflict.bounds) refl;
  },
  refl,
)
  where
    good : NoneWrong log f v (line.Cycle steps ∷ [])
    good n some within =
        let one : n ≡ 1 = omega (arith, some, within) in
        rw one (record {
          right = record { line = line.Cycle steps; stands = refl; spelled = walk_spelled log valid steps conflict; shown = conflict.conflict };
          open_before = λ empty. absurd (cc);
        })
