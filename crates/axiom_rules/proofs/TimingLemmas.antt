-- The times of the rows of one host rise.
use Rattle.std.proofs.Common.{◌≡◌, sym, ◌∙◌, refl, ℕ, zero, suc, ◌<◌, List, length, Option, Some, None, inl, inr, ℤ, ◌≤ℤ◌, arith}
use Rattle.std.proofs.lemmas.Bool.{cases_order}
use Rattle.mt_model.specs.Before.{Before, BeforeIsNotLater, directly, through}
use Rattle.mt_model.specs.Log.{Logged, IsLog}
use Rattle.mt_model.specs.Timing.{Admissible, host_of, previous_row, time_of}
use Rattle.mt_model.proofs.PreviousRows.{is_last}

-- of two rows of one host the earlier one in the log happens before the other
pub before-same_host : (log : Logged) (bound e f : ℕ) → f < bound → f < length log.rows → e < f → host_of log e ≡ host_of log f → Before log e f
before-same_host log zero e f low within less same = absurd (omega arith)
before-same_host log (suc bound) e f low within less same = go (previous_row log f) refl (λ k. before-same_host log bound e k)
  where
    go : (o : Option ℕ) → previous_row log f ≡ o → ((k : ℕ) → k < bound → k < length log.rows → e < k → host_of log e ≡ host_of log k → Before log e k) → Before log e f
    go None is earlier = absurd (is_last.absent log f is e less same)
    go (Some p) is earlier =
        let last = is_last.found log p f is in
        let near : Before log p f = directly p f (within, inl is) in
        let previous = last.before in
        elim (cases_order e p) [
          | inl at ↦ rw at near
          | inr (inl below) ↦ through e p f (earlier p (omega arith) (omega arith) below (same ∙ sym last.same_host)) near
          | inr (inr above) ↦ absurd (last.none_between e above less same)
        ]

-- what the rules on propositions use of the log: the rows of one host have rising times
pub times-rise : BeforeIsNotLater → (log : Logged) (t : List ℤ) → IsLog log → Admissible log t → (e f : ℕ) → f < length log.rows → e < f → host_of log e ≡ host_of log f → time_of t e ≤ℤ time_of t f
times-rise law log t valid ok e f within less same = law log e f t valid (before-same_host log (suc f) e f (omega arith) within less same) ok
