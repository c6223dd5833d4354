-- Which reports have a spelling.
use Rattle.std.specs.Prelude.{◌≡◌, ℕ, List, length, All, ℤ}
use Rattle.mt_model.specs.declared.limits.TheConstants.{MAX_TIME}
use Rattle.mt_model.specs.declared.step.Step.{Step}
use Rattle.mt_model.specs.declared.step.Step.TheVariants as step
use Rattle.mt_model.specs.Log.{IsWithin}
use Rattle.proof_log.specs.declared.line.Line.{Line}
use Rattle.proof_log.specs.Spelled.{IsNumber, IsSpelled as IsSpelledLine}
use Rattle.report_text.specs.declared.report.Section.{Section}
use Rattle.report_text.specs.declared.report.Section.TheVariants as section
use Rattle.report_text.specs.declared.report.Report.{Report}
use Rattle.report_text.specs.declared.report.Report.TheVariants as report

-- a bound of a log has a spelling; an order step is none
abbrev pub IsSpelledBound : Step → Type 0
IsSpelledBound (step.Low e) = IsNumber e
IsSpelledBound (step.High e) = IsNumber e
IsSpelledBound (step.Rise e) = IsNumber e
IsSpelledBound (step.Message e) = IsNumber e
IsSpelledBound (step.Late e) = IsNumber e
IsSpelledBound (step.Under e) = IsNumber e
IsSpelledBound (step.Over e) = IsNumber e
IsSpelledBound (step.Extra k) = IsNumber k
IsSpelledBound (step.Order e f c) = ⊥

-- the bounds of a walk have a spelling: there are fewer than 2^32, and each has one
pub record AreSpelledBounds (steps : List Step) : Type 0 where
  pub count : IsNumber (length steps)
  pub each : All IsSpelledBound steps

-- a witness has a spelling: it has a time for each event, of magnitude up to 10^19
pub record IsSpelledWitness (events : ℕ) (times : List ℤ) : Type 0 where
  pub full : length times ≡ events
  pub each : All (IsWithin MAX_TIME) times

-- a derivation has a spelling: there are fewer than 2^32 lines, and each has one
pub record AreSpelledLines (lines : List Line) : Type 0 where
  pub count : IsNumber (length lines)
  pub each : All IsSpelledLine lines

-- a section of a report on so many events has a spelling
abbrev pub IsSpelledSection : ℕ → Section → Type 0
IsSpelledSection events (section.Witness times) = IsSpelledWitness events times
IsSpelledSection events (section.Refuted lines) = AreSpelledLines lines
IsSpelledSection events (section.Unknown lines) = AreSpelledLines lines

-- an inconsistent report has a spelling: it is on fewer than 2^32 events, and its walk has one
pub record IsSpelledInconsistent (events : ℕ) (steps : List Step) : Type 0 where
  pub few : IsNumber events
  pub walk : AreSpelledBounds steps

-- a report of verdicts has a spelling: it is on fewer than 2^32 events, and both sections have one
pub record AreSpelledVerdicts (events : ℕ) (on_true on_false : Section) : Type 0 where
  pub few : IsNumber events
  pub true_spelled : IsSpelledSection events on_true
  pub false_spelled : IsSpelledSection events on_false

-- a report has a spelling
abbrev pub IsSpelled : Report → Type 0
IsSpelled (report.Inconsistent events steps) = IsSpelledInconsistent events steps
IsSpelled (report.Verdicts events on_true on_false) = AreSpelledVerdicts events on_true on_false
