-- What `span` answers.
use Rattle.std.specs.Prelude.{◌≡◌, ℕ, Bool, List}
use Rattle.mt_model.specs.Form.{Form, form_of}
use Rattle.mt_model.specs.Log.{Logged}
use Rattle.mt_port.specs.Port.{Files}
use Rattle.verdict_span.specs.declared.greatest.Widest.{Widest}
use Rattle.verdict_span.specs.declared.greatest.Widest.TheVariants as widest
use Rattle.verdict_span.specs.Told.{IsInconsistentExactly, Tells}
use Rattle.verdict_span.specs.Widest.{WidestRight}
use Rattle.skew_answers.specs.declared.status.Status.{Status}
use Rattle.skew_answers.specs.declared.status.Status.TheVariants as status
use Rattle.skew_words.specs.Words.{Word}
use Rattle.skew_commands.specs.declared.formula_and_log.Question.{Question}
use Rattle.skew_commands.specs.Tests.{OnHosts, OnNodes, OnQuestion}
use Rattle.skew_best.specs.declared.spanning.Distance.{Distance}
use Rattle.skew_best.specs.EventTests.{OnEvents}
use Rattle.skew_best.specs.SizeTests.{OnSize}
use Rattle.skew_best.specs.SpanText.{span_text}

-- the status of an answer
abbrev pub span_status : Widest → Status
span_status (widest.Greatest d times beyond) = status.Zero
span_status (widest.Never lines) = status.One
span_status (widest.Inconsistent steps) = status.Inconsistent
span_status (widest.Unknown least lines) = status.Unknown

-- the answer is the text and the status of a right one, which is inconsistent exactly where no timing is admissible; and what it tells of
-- the timings that give the formula the value is so
pub record Spanned (conflicts : ℕ) (v : Bool) (e to : ℕ) (f : Form) (log : Logged) (out : List ℕ) (s : Status) : Type 0 where
  pub answer : Widest
  pub right : WidestRight log f v e to conflicts answer
  pub tells : Tells log f v e to conflicts answer
  pub inconsistent : IsInconsistentExactly log answer
  pub written : out ≡ span_text v answer
  pub status : s ≡ span_status answer

-- with the formula and the log read: the formula's hosts, its nodes, the events and the size, and then the answer
abbrev pub SpanOfLog : ℕ → Bool → ℕ → ℕ → List ℕ → Form → Logged → List ℕ → Status → Type 0
SpanOfLog conflicts v e to text f log = OnHosts text f log (OnNodes f (OnEvents e to log (OnSize f log (Spanned conflicts v e to f log))))

-- with the question read: the greatest distance that is looked for
abbrev pub SpanOfQuestion : Distance → Question → List ℕ → Status → Type 0
SpanOfQuestion d q = SpanOfLog d.conflicts d.value d.from d.to q.text.items (form_of q.formula) q.log

-- what `span` gives
abbrev pub SpanOutcome : Files → ℕ → Bool → ℕ → ℕ → Word → Word → List ℕ → Status → Type 0
SpanOutcome files conflicts v e to formula log = OnQuestion files formula log (SpanOfLog conflicts v e to)

-- and so for the greatest distance that is looked for
abbrev pub SpanOutcomeOf : Distance → Files → Word → Word → List ℕ → Status → Type 0
SpanOutcomeOf d files = SpanOutcome files d.conflicts d.value d.from d.to
