-- What the statuses of `span` say of the timings that give a formula a value.
use Rattle.std.specs.Prelude.{◌≡◌, ◌↔◌, ◌⊎◌, ◌++◌, ℕ, Bool, List, codes, Option, None, ℤ}
use Rattle.std.specs.Fmt.{signed_decimal}
use Rattle.mt_model.specs.Form.{Form}
use Rattle.mt_model.specs.Log.{Logged}
use Rattle.mt_model.specs.Truth.{IsValue}
use Rattle.mt_port.specs.Port.{Files}
use Rattle.skew_bounds.specs.Tight.{IsInconsistent}
use Rattle.question.specs.Faults.{IsJudged}
use Rattle.cdcl_core.specs.Spent.{CanBeSpent}
use Rattle.verdict_span.specs.Widest.{IsGreatestDistance, searched}
use Rattle.skew_answers.specs.declared.status.Status.{Status}
use Rattle.skew_answers.specs.declared.status.Status.TheVariants as status
use Rattle.skew_answers.specs.Statuses.{IsVerdict}
use Rattle.skew_words.specs.Words.{Word}
use Rattle.skew_commands.specs.Reads.{IsQuestion}
use Rattle.skew_best.specs.BestLaws.{HasFirstLine}
use Rattle.skew_best.specs.EventTests.{missing_event}
use Rattle.skew_best.specs.SpanOutcome.{SpanOutcome, Spanned}
use Rattle.skew_best.specs.SpanText.{unknown_line}

-- a formula and a log were read from the files of these names, and a greatest distance of these events is looked for: they are rows of
-- the log, the formula's hosts are in it, and its nodes and the size are within their limits
pub record IsSpannedQuestion (files : Files) (formula log : Word) (e to : ℕ) (text : List ℕ) (f : Form) (l : Logged) : Type 0 where
  pub question : IsQuestion files formula log text f l
  pub judged : IsJudged l f
  pub rows : missing_event l e to ≡ None

-- the first line is `span D`, and in some admissible timing that gives the value the second event comes D after the first, and in none
-- later
pub record TellsGreatest (log : Logged) (f : Form) (v : Bool) (e to : ℕ) (out : List ℕ) : Type 0 where
  pub d : ℤ
  pub first : HasFirstLine (codes "span " ++ signed_decimal d) out
  pub greatest : IsGreatestDistance log f v e to d

-- the first line names the log that was searched, of which the rules allow that so many conflicts are spent
pub record TellsSpent (conflicts : ℕ) (log : Logged) (f : Form) (v : Bool) (e to : ℕ) (out : List ℕ) : Type 0 where
  pub least : Option ℤ
  pub first : HasFirstLine (unknown_line least) out
  pub spent : CanBeSpent (searched log f v e to least) f v conflicts

-- the answer is the text of a right one. Zero tells the greatest distance with the value, One that the formula can't have it, and Unknown
-- a log whose search spent its conflicts; where the value is possible the answer is Zero or Unknown; and it is Inconsistent exactly where
-- no timing is admissible
pub record IsBestSpan (conflicts : ℕ) (v : Bool) (e to : ℕ) (f : Form) (log : Logged) (out : List ℕ) (s : Status) : Type 0 where
  pub spanned : Spanned conflicts v e to f log out s
  pub zero : s ≡ status.Zero → TellsGreatest log f v e to out
  pub one : s ≡ status.One → IsValue log f v → ⊥
  pub unknown : s ≡ status.Unknown → TellsSpent conflicts log f v e to out
  pub possible : IsValue log f v → (s ≡ status.Zero) ⊎ (s ≡ status.Unknown)
  pub inconsistent : (s ≡ status.Inconsistent) ↔ IsInconsistent log

-- of a formula and a log that were read, where a distance is looked for, `span` answers the greatest one, and nothing else
abbrev pub SpansAreBest : Type 0
SpansAreBest =
    (files : Files) (conflicts : ℕ) (v : Bool) (e to : ℕ) (formula log : Word) (text : List ℕ) (f : Form) (l : Logged) (out : List ℕ) (s : Status)
    → IsSpannedQuestion files formula log e to text f l → SpanOutcome files conflicts v e to formula log out s → IsBestSpan conflicts v e to f l out s

-- a status of `span` that is no refusal comes only of a formula and a log that were read, where a distance is looked for
abbrev pub SpansAreAsked : Type 0
SpansAreAsked =
    (files : Files) (conflicts : ℕ) (v : Bool) (e to : ℕ) (formula log : Word) (out : List ℕ) (s : Status) → SpanOutcome files conflicts v e to formula log out s → IsVerdict s
    → (text : List ℕ) × (f : Form) × (l : Logged) × IsSpannedQuestion files formula log e to text f l
