-- How the room above a distance gets less.
use Rattle.std.proofs.Common.{◌≡◌, ◌↔◌, ◌∙◌, sym, refl, subst, arith, ℕ, ◌+◌, ◌≤◌, Bool, List, length, IfOk, IsTrue, Result, ℤ, pos, ◌+ℤ◌, ◌≤ℤ◌}
use Rattle.std.proofs.lemmas.Int.{ints}
use Rattle.formula_arena.specs.Nodes.{nodes_of}
use Rattle.mt_model.specs.Form.{Form}
use Rattle.mt_model.specs.Log.{IsLog, IsWithin, Logged}
use Rattle.mt_model.specs.declared.limits.TheConstants.{MAX_EXTRA, MAX_TIME}
use Rattle.question.specs.Size.{IsSmall}
use Rattle.question.specs.SizesFall.{SizesFall}
use Rattle.mt_model.specs.Timing.{Admissible}
use Rattle.skew_bounds.specs.Differences.{Differences}
use Rattle.skew_bounds.specs.Tight.{IsGreatestDifference, IsTight, difference}
use Rattle.proof_check.specs.Laws.{RefutedIsNoValue}
use Rattle.proof_log.specs.declared.line.Line.{Line}
use Rattle.proof_log.specs.Derivations.{Refutes}
use Rattle.cdcl_core.specs.Values.{GivesValue, RefuteEachValue, RefutesWithin}
use Rattle.best_answer.proofs.SmallSizes.{small-within}
use Rattle.verdict_span.specs.Spaced.{CanBeSpaced, spaced}
use Rattle.verdict_span.proofs.Extras.{extras-keep-truth, spaced-valid, the-extra, unspaced}
use Rattle.verdict_span.proofs.Telling.{below-refuted}

end-within : (low : ℤ) (room : ℕ) → IsWithin (MAX_TIME +ℤ MAX_TIME) low → (low +ℤ pos room) ≤ℤ (MAX_TIME +ℤ MAX_TIME) → IsWithin MAX_EXTRA (low +ℤ pos (room + 1))
end-within low room near top = record { low = omega (arith, ints, near.low); high = omega (arith, ints, top) }

module _ (log : Logged) (f : Form) (v : Bool) (e to : ℕ) where
  -- a timing of the log with the extra bound gives the value without it too
  pub gives-without : (c : ℤ) (t : List ℤ) → GivesValue (spaced e to c log) f v t → GivesValue log f v t
  gives-without c t gives = record { admissible = unspaced log e to c t gives.admissible; value = sym (extras-keep-truth log (the-extra log e to c t) t 0 f) ∙ gives.value }

  -- lines that refute for a smaller distance too are as few
  pub refuted-within : (c d : ℤ) (budget : ℕ) (lines : List Line) → RefutesWithin (spaced e to c log) f v budget lines → Refutes (spaced e to d log) f v lines
      → RefutesWithin (spaced e to d log) f v budget lines
  refuted-within c d budget lines found refutes = record { refutes = refutes; few_lessons = found.few_lessons; few = found.few }

  -- the same distance, written in another way
  pub refuted-at : (c d : ℤ) (budget : ℕ) (lines : List Line) → c ≡ d → RefutesWithin (spaced e to c log) f v budget lines → RefutesWithin (spaced e to d log) f v budget lines
  refuted-at c d budget lines same refuted = subst (λ (x : ℤ). RefutesWithin (spaced e to x log) f v budget lines) same refuted

  -- the one line that refutes each value
  pub refuted-by-one : (c : ℤ) (budget : ℕ) (lines : List Line) → 1 ≤ budget → RefuteEachValue (spaced e to c log) lines → length lines ≡ 1 → RefutesWithin (spaced e to c log) f v budget lines
  refuted-by-one c budget lines some each one = let none = (each f v).1 in record { refutes = (each f v).0; few_lessons = omega (arith, none, some); few = omega (arith, one, some) }

  -- what lines refute beyond a room no timing with the value reaches
  pub reached : RefutedIsNoValue → (low : ℤ) (room budget : ℕ) (lines : List Line) → IsLog log → CanBeSpaced log e to → IsWithin (MAX_TIME +ℤ MAX_TIME) low
      → (low +ℤ pos room) ≤ℤ (MAX_TIME +ℤ MAX_TIME)
      → RefutesWithin (spaced e to (low +ℤ pos (room + 1)) log) f v budget lines → (t : List ℤ) → GivesValue log f v t → difference t e to ≤ℤ (low +ℤ pos room)
  reached refutes low room budget lines valid pair near top refuted t gives =
      let range = end-within low room near top in
      let below = below-refuted refutes log f v e to (low +ℤ pos (room + 1)) budget lines (spaced-valid log e to (low +ℤ pos (room + 1)) valid pair range) refuted t gives.admissible gives.value in
      omega (arith, ints, below)

-- a greatest distance, written in another way
pub greatest-at : (log : Logged) (e to : ℕ) (c d : ℤ) → IsGreatestDifference log e to c → c ≡ d → IsGreatestDifference log e to d
greatest-at log e to c d is same = subst (λ (x : ℤ). IsGreatestDifference log e to x) same is

-- the line of a distance, written in another way
pub refute-at : {X : Type 0} (r : Result (List Line) X) (log : Logged) (e to : ℕ) (c d : ℤ) → IfOk r (RefuteEachValue (spaced e to c log)) → c ≡ d → IfOk r (RefuteEachValue (spaced e to d log))
refute-at r log e to c d each same = subst (λ (x : ℤ). IfOk r (RefuteEachValue (spaced e to x log))) same each

-- whether lines refute for a distance, written in another way
pub whether-at : {X : Type 0} (r : Result Bool X) (log : Logged) (f : Form) (v : Bool) (e to : ℕ) (c d : ℤ) (lines : List Line) → IfOk r (λ b. IsTrue b ↔ Refutes (spaced e to c log) f v lines) → c ≡ d
    → IfOk r (λ b. IsTrue b ↔ Refutes (spaced e to d log) f v lines)
whether-at r log f v e to c d lines told same = subst (λ (x : ℤ). IfOk r (λ b. IsTrue b ↔ Refutes (spaced e to x log) f v lines)) same told

-- the problem of the log with the extra bound is small enough where that of the log is
pub small-spaced : SizesFall → (log : Logged) (f : Form) (e to : ℕ) (times : List ℤ) (d : Differences) → Admissible log times → IsTight log d → IsSmall log (nodes_of f) → (c : ℤ) → IsSmall (spaced e to c log) (nodes_of f)
small-spaced fall log f e to times d admissible tight small c =
    small-within fall (spaced e to c log) log f times d admissible tight small (record { rows = refl; admits = λ t ok. unspaced log e to c t ok })
