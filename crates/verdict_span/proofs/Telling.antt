-- What right answers tell of the timings that give the formula the value.
use Rattle.std.proofs.Common.{◌≡◌, ◌∙◌, refl, arith, ℕ, suc, ◌≤◌, ◌<◌, Bool, List, length, Some, None, inl, inr, ℤ, pos, ◌+ℤ◌, ◌-ℤ◌, ◌≤ℤ◌, int_le}
use Rattle.std.proofs.lemmas.Bool.{cases_Bool}
use Rattle.std.proofs.lemmas.Int.{ints}
use Rattle.mt_model.specs.declared.limits.TheConstants.{MAX_EXTRA, MAX_TIME}
use Rattle.mt_model.specs.Form.{Form}
use Rattle.mt_model.specs.Laws.{ConflictExcludesTimings}
use Rattle.mt_model.specs.Log.{IsLog, IsWithin, Logged}
use Rattle.mt_model.specs.Timing.{Admissible, time_of}
use Rattle.mt_model.specs.Truth.{truth}
use Rattle.skew_bounds.specs.Tight.{difference}
use Rattle.skew_bounds.proofs.Near.{admissible-near}
use Rattle.proof_log.specs.declared.line.Line.{Line}
use Rattle.proof_log.specs.FreshLaws.{RefutedByRulesIsNotSpent, SpentIsBounded}
use Rattle.proof_check.specs.Laws.{RefutedIsNoValue}
use Rattle.cdcl_core.specs.Values.{RefutesWithin}
use Rattle.best_answer.proofs.Spending.{could-be-spent}
use Rattle.verdict_span.specs.declared.greatest.Widest.{Widest}
use Rattle.verdict_span.specs.declared.greatest.Widest.TheVariants as widest
use Rattle.verdict_span.specs.Laws.{RightSpansAreGreatest}
use Rattle.verdict_span.specs.Spaced.{CanBeSpaced, spaced}
use Rattle.verdict_span.specs.Told.{IsInconsistentExactly, Tells}
use Rattle.verdict_span.specs.Widest.{IsGreatest, WidestRight, searched}
use Rattle.verdict_span.proofs.Extras.{extras-keep-truth, spaced-out, spaced-valid, the-extra, unspaced}

not-above : (a b : ℤ) → (b ≤ℤ a → ⊥) → (a +ℤ pos 1) ≤ℤ b
not-above a b none = elim (cases_Bool (int_le b a)) [
  | inl above ↦ absurd (none (grind (arith, ints, above)))
  | inr below ↦ grind (arith, ints, below)
]

near-by : (a b : ℤ) → IsWithin MAX_TIME a → IsWithin MAX_TIME b → IsWithin (MAX_TIME +ℤ MAX_TIME) (b -ℤ a)
near-by a b from to = record { low = omega (arith, ints, from.high, to.low); high = omega (arith, ints, from.low, to.high) }

-- a distance in an admissible timing is within twice the limit of times
pub difference-near : (log : Logged) (e to : ℕ) (t : List ℤ) → IsLog log → e < length log.rows → to < length log.rows → Admissible log t → IsWithin (MAX_TIME +ℤ MAX_TIME) (difference t e to)
difference-near log e to t valid row other ok =
    near-by (time_of t e) (time_of t to) (admissible-near log valid t ok (suc e) (omega (arith, row))) (admissible-near log valid t ok (suc to) (omega (arith, other)))

next-within : (d : ℤ) → IsWithin (MAX_TIME +ℤ MAX_TIME) d → IsWithin MAX_EXTRA (d +ℤ pos 1)
next-within d near = record { low = omega (arith, ints, near.low); high = omega (arith, ints, near.high) }

-- lines that refute the value where row `to` comes at least c after row e leave only timings with it in which it comes earlier
pub below-refuted : RefutedIsNoValue → (log : Logged) (f : Form) (v : Bool) (e to : ℕ) (c : ℤ) (budget : ℕ) (lines : List Line) → IsLog (spaced e to c log)
    → RefutesWithin (spaced e to c log) f v budget lines
    → (t : List ℤ) → Admissible log t → truth log t 0 f ≡ v → (difference t e to +ℤ pos 1) ≤ℤ c
below-refuted refutes log f v e to c budget lines valid refuted t ok value = not-above (difference t e to) c (λ above.
    refutes (spaced e to c log) f v lines valid refuted.refutes
    (record { timing = t; admissible = spaced-out log e to c t ok above; value = extras-keep-truth log (the-extra log e to c t) t 0 f ∙ value }))

module _ (refutes : RefutedIsNoValue) (bounded : SpentIsBounded) (by_rules : RefutedByRulesIsNotSpent) (excludes : ConflictExcludesTimings) where
  module _ (log : Logged) (f : Form) (v : Bool) (e to budget : ℕ) (valid : IsLog log) (pair : CanBeSpaced log e to) (some : 1 ≤ budget) where
    bound : (d : ℤ) (times : List ℤ) (beyond : List Line) → IsGreatest log f v e to budget d times beyond → (t : List ℤ) → Admissible log t → truth log t 0 f ≡ v → difference t e to ≤ℤ d
    bound d times beyond right t ok value =
        let near = difference-near log e to times valid pair.row pair.other right.gives.admissible in
        let range = next-within d (rw right.distance at near) in
        let below = below-refuted refutes log f v e to (d +ℤ pos 1) budget beyond (spaced-valid log e to (d +ℤ pos 1) valid pair range) right.refuted t ok value in
        omega (arith, ints, below)

    tells : (answer : Widest) → WidestRight log f v e to budget answer → Tells log f v e to budget answer
    tells (widest.Greatest d times beyond) right = record {
      timing = times;
      admissible = right.gives.admissible;
      value = right.gives.value;
      distance = right.distance;
      bound = bound d times beyond right;
    }
    tells (widest.Never lines) right = λ value. refutes log f v lines valid right.refuted.refutes value
    tells (widest.Inconsistent steps) right = λ t ok. excludes log steps t right.bounds right.conflict ok
    tells (widest.Unknown least lines) right = could-be-spent bounded by_rules (searched log f v e to least) f v budget lines some right

  exactly : (log : Logged) (f : Form) (v : Bool) (e to budget : ℕ) (answer : Widest) → WidestRight log f v e to budget answer → IsInconsistentExactly log answer
  exactly log f v e to budget (widest.Greatest d times beyond) right = (λ is. absurd (cc), λ none. absurd (none times right.gives.admissible))
  exactly log f v e to budget (widest.Never lines) right = (λ is. absurd (cc), λ none. absurd (none right.consistent.timing right.consistent.admissible))
  exactly log f v e to budget (widest.Inconsistent steps) right = (λ is t ok. excludes log steps t right.bounds right.conflict ok, λ none. refl)
  exactly log f v e to budget (widest.Unknown None lines) right = (λ is. absurd (cc), λ none. absurd (none right.consistent.timing right.consistent.admissible))
  exactly log f v e to budget (widest.Unknown (Some c) lines) right =
      (λ is. absurd (cc), λ none. absurd (none right.consistent.timing (unspaced log e to c right.consistent.timing right.consistent.admissible)))

  pub right-greatest : RightSpansAreGreatest
  right-greatest = record {
    tells = λ log f v e to budget answer valid pair some right. tells log f v e to budget valid pair some answer right;
    exactly = exactly;
  }
