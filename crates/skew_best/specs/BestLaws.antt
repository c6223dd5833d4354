-- What the statuses of `tolerance` say of the values that a formula can have.
use Rattle.std.specs.Prelude.{◌≡◌, ◌↔◌, ◌⊎◌, ◌≤◌, ◌++◌, ℕ, Bool, List, codes}
use Rattle.std.specs.Fmt.{decimal}
use Rattle.mt_model.specs.Form.{Form}
use Rattle.mt_model.specs.Log.{Logged}
use Rattle.mt_model.specs.Truth.{IsValue}
use Rattle.mt_port.specs.Port.{Files}
use Rattle.skew_bounds.specs.Tight.{IsInconsistent}
use Rattle.report_text.specs.ReportText.{ended}
use Rattle.cdcl_core.specs.Spent.{CanBeSpent}
use Rattle.least_skew.specs.Faults.{IsAsked}
use Rattle.least_skew.specs.Least.{IsLeastWidening, wide}
use Rattle.skew_answers.specs.declared.status.Status.{Status}
use Rattle.skew_answers.specs.declared.status.Status.TheVariants as status
use Rattle.skew_answers.specs.Statuses.{IsVerdict}
use Rattle.skew_words.specs.Words.{Word}
use Rattle.skew_commands.specs.Reads.{IsQuestion}
use Rattle.skew_best.specs.ToleranceOutcome.{ToleranceOutcome, Tolerated}

-- the first line of the bytes is this one
abbrev pub HasFirstLine : List ℕ → List ℕ → Type 0
HasFirstLine line out = (rest : List ℕ) × (out ≡ ended line ++ rest)

-- a formula and a log were read from the files of these names, and a least widening up to the greatest one is looked for: the
-- formula's hosts are in the log, and its nodes and the size with the greatest widening are within their limits
pub record IsAskedQuestion (files : Files) (formula log : Word) (max : ℕ) (text : List ℕ) (f : Form) (l : Logged) : Type 0 where
  pub question : IsQuestion files formula log text f l
  pub asked : IsAsked l f max

-- the first line is `tolerance S`, and with the widening S the formula can have the value, and with no smaller one
pub record TellsLeast (log : Logged) (f : Form) (v : Bool) (max : ℕ) (out : List ℕ) : Type 0 where
  pub s : ℕ
  pub within : s ≤ max
  pub first : HasFirstLine (codes "tolerance " ++ decimal s) out
  pub least : IsLeastWidening log f v s

-- the first line is `tolerance unknown S`, and with the widening S the rules allow that so many conflicts are spent
pub record TellsUnknown (conflicts : ℕ) (log : Logged) (f : Form) (v : Bool) (max : ℕ) (out : List ℕ) : Type 0 where
  pub s : ℕ
  pub within : s ≤ max
  pub first : HasFirstLine (codes "tolerance unknown " ++ decimal s) out
  pub spent : CanBeSpent (wide s log) f v conflicts

-- the formula can have the value with some widening up to the greatest one
pub record IsPossibleWithin (log : Logged) (f : Form) (v : Bool) (max : ℕ) : Type 0 where
  pub s : ℕ
  pub within : s ≤ max
  pub can : IsValue (wide s log) f v

-- the answer is the text of a right one. Zero tells the least widening with which the formula can have the value, One that it can't up
-- to the greatest one, and Unknown a widening at which a search spent its conflicts; where the value is possible the answer is Zero or
-- Unknown; and it is Inconsistent exactly where no timing is admissible with the greatest widening
pub record IsBestTolerance (conflicts : ℕ) (v : Bool) (max : ℕ) (f : Form) (log : Logged) (out : List ℕ) (s : Status) : Type 0 where
  pub tolerated : Tolerated conflicts v max f log out s
  pub zero : s ≡ status.Zero → TellsLeast log f v max out
  pub one : s ≡ status.One → IsPossibleWithin log f v max → ⊥
  pub unknown : s ≡ status.Unknown → TellsUnknown conflicts log f v max out
  pub possible : IsPossibleWithin log f v max → (s ≡ status.Zero) ⊎ (s ≡ status.Unknown)
  pub inconsistent : (s ≡ status.Inconsistent) ↔ IsInconsistent (wide max log)

-- of a formula and a log that were read, where a widening is looked for, `tolerance` answers the least one, and nothing else
abbrev pub TolerancesAreBest : Type 0
TolerancesAreBest =
    (files : Files) (conflicts : ℕ) (v : Bool) (max : ℕ) (formula log : Word) (text : List ℕ) (f : Form) (l : Logged) (out : List ℕ) (s : Status)
    → IsAskedQuestion files formula log max text f l → ToleranceOutcome files conflicts v max formula log out s → IsBestTolerance conflicts v max f l out s

-- a status of `tolerance` that is no refusal comes only of a formula and a log that were read, where a widening is looked for
abbrev pub TolerancesAreAsked : Type 0
TolerancesAreAsked =
    (files : Files) (conflicts : ℕ) (v : Bool) (max : ℕ) (formula log : Word) (out : List ℕ) (s : Status) → ToleranceOutcome files conflicts v max formula log out s → IsVerdict s
    → (text : List ℕ) × (f : Form) × (l : Logged) × IsAskedQuestion files formula log max text f l
