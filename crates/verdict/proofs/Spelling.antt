-- What is found has a spelling.
use Rattle.std.proofs.Common.{◌≡◌, ◌∙◌, sym, ℕ, List, length, ℤ}
use Rattle.mt_model.specs.declared.step.Step.{Step}
use Rattle.mt_model.specs.declared.step.Step.TheVariants.{Low, High, Rise, Message, Late, Under, Over, Extra, Order}
use Rattle.mt_model.specs.Laws.{IsBound}
use Rattle.mt_model.specs.Log.{IsLog, Logged}
use Rattle.mt_model.specs.Timing.{Admissible}
use Rattle.skew_bounds.proofs.Near.{times-near}
use Rattle.skew_bounds.specs.Consistency.{IsConflict}
use Rattle.cdcl_core.proofs.ShortWalks.{walk_spelled}
use Rattle.proof_log.specs.Spelled.{IsSpelledStep}
use Rattle.report_text.specs.Spelled.{AreSpelledBounds, IsSpelledBound, IsSpelledWitness}

pub witness_spelled : (log : Logged) (t : List ℤ) (events : ℕ) → IsLog log → Admissible log t → events ≡ length log.rows → IsSpelledWitness events t
witness_spelled log t events valid admissible same = record { full = admissible.count ∙ sym same; each = times-near log valid t admissible }

-- a step that is a bound and has a spelling has one as a bound
bound_spelled : (s : Step) → IsBound s → IsSpelledStep s → IsSpelledBound s
bound_spelled (Low e) bound spelled = spelled
bound_spelled (High e) bound spelled = spelled
bound_spelled (Rise e) bound spelled = spelled
bound_spelled (Message e) bound spelled = spelled
bound_spelled (Late e) bound spelled = spelled
bound_spelled (Under e) bound spelled = spelled
bound_spelled (Over e) bound spelled = spelled
bound_spelled (Extra k) bound spelled = spelled
bound_spelled (Order e f c) bound spelled = absurd bound

-- bounds in conflict that come to no moment twice have a spelling
pub bounds_spelled : (log : Logged) → IsLog log → (steps : List Step) → IsConflict log steps → AreSpelledBounds steps
bounds_spelled log valid steps conflict =
    let spelled = walk_spelled log valid steps conflict in
    record { count = spelled.count; each = λ k d below. bound_spelled _ (conflict.bounds k d below) (spelled.each k d below) }
