-- What `tolerance` answers.
use Rattle.std.specs.Prelude.{◌≡◌, ℕ, Bool, List}
use Rattle.mt_model.specs.Form.{Form, form_of}
use Rattle.mt_model.specs.Log.{Logged}
use Rattle.mt_port.specs.Port.{Files}
use Rattle.least_skew.specs.declared.tolerance.Tolerance.{Tolerance}
use Rattle.least_skew.specs.declared.tolerance.Tolerance.TheVariants as tolerance
use Rattle.least_skew.specs.Least.{LeastRight, wide}
use Rattle.least_skew.specs.Told.{IsInconsistentExactly, Tells}
use Rattle.skew_answers.specs.declared.status.Status.{Status}
use Rattle.skew_answers.specs.declared.status.Status.TheVariants as status
use Rattle.skew_words.specs.Words.{Word}
use Rattle.skew_commands.specs.declared.formula_and_log.Question.{Question}
use Rattle.skew_commands.specs.Tests.{OnHosts, OnNodes, OnQuestion}
use Rattle.skew_best.specs.declared.tolerating.Widening.{Widening}
use Rattle.skew_best.specs.SizeTests.{OnSize}
use Rattle.skew_best.specs.ToleranceText.{tolerance_text}

-- the status of an answer
abbrev pub tolerance_status : Tolerance → Status
tolerance_status (tolerance.Least s times below) = status.Zero
tolerance_status (tolerance.Never lines) = status.One
tolerance_status (tolerance.Inconsistent steps) = status.Inconsistent
tolerance_status (tolerance.Unknown s lines) = status.Unknown

-- the answer is the text and the status of a right one, which is inconsistent exactly where no timing is admissible with the greatest
-- widening; and what it tells of the values that the formula can have is so
pub record Tolerated (conflicts : ℕ) (v : Bool) (max : ℕ) (f : Form) (log : Logged) (out : List ℕ) (s : Status) : Type 0 where
  pub answer : Tolerance
  pub right : LeastRight log f v max conflicts answer
  pub tells : Tells log f v max conflicts answer
  pub inconsistent : IsInconsistentExactly log max answer
  pub written : out ≡ tolerance_text v answer
  pub status : s ≡ tolerance_status answer

-- with the formula and the log read: the formula's hosts, its nodes and the size with the greatest widening, and then the answer
abbrev pub ToleranceOfLog : ℕ → Bool → ℕ → List ℕ → Form → Logged → List ℕ → Status → Type 0
ToleranceOfLog conflicts v max text f log = OnHosts text f log (OnNodes f (OnSize f (wide max log) (Tolerated conflicts v max f log)))

-- with the question read: the least widening that is looked for
abbrev pub ToleranceOfQuestion : Widening → Question → List ℕ → Status → Type 0
ToleranceOfQuestion w q = ToleranceOfLog w.conflicts w.value w.max q.text.items (form_of q.formula) q.log

-- what `tolerance` gives
abbrev pub ToleranceOutcome : Files → ℕ → Bool → ℕ → Word → Word → List ℕ → Status → Type 0
ToleranceOutcome files conflicts v max formula log = OnQuestion files formula log (ToleranceOfLog conflicts v max)

-- and so for the least widening that is looked for
abbrev pub ToleranceOutcomeOf : Widening → Files → Word → Word → List ℕ → Status → Type 0
ToleranceOutcomeOf w files = ToleranceOutcome files w.conflicts w.value w.max
