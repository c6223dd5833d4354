-- From what was found of a report that is to be trimmed to what is asked for.
use Rattle.std.proofs.Common.{◌≡◌, refl, inl, inr, ℕ, ◌≤◌, List, [], length, Some, Ok}
use Rattle.std.specs.Prelude.{Result}
use Rattle.mt_port.specs.Port.{Files, file_of}
use Rattle.proof_log.specs.declared.line.Line.{Line}
use Rattle.proof_trim.specs.Laws.{CanBeTrimmed}
use Rattle.report_text.specs.declared.report.Report.{Report}
use Rattle.report_text.specs.declared.report.Report.TheVariants as report
use Rattle.report_text.specs.declared.report.Section.{Section}
use Rattle.report_text.specs.declared.report.Section.TheVariants as section
use Rattle.report_text.specs.ReportOf.{ReportOf}
use Rattle.skew_answers.specs.declared.status.Status.{Status}
use Rattle.skew_answers.specs.Texts.{line}
use Rattle.skew_words.specs.Words.{Word}
use Rattle.skew_commands.specs.declared.refusal.Named.{Named}
use Rattle.skew_commands.specs.declared.refusal.Named.TheVariants as named
use Rattle.skew_commands.specs.declared.refusal.Refusal.TheVariants as refusal
use Rattle.skew_commands.specs.declared.refusal.ReportPart.{ReportPart}
use Rattle.skew_commands.specs.declared.refusal.ReportPart.TheVariants as part
use Rattle.skew_commands.specs.declared.reply.Reply.{Reply}
use Rattle.skew_commands.specs.declared.reply.Stop.{Stop}
use Rattle.skew_commands.specs.Possible.{OfSomeFile}
use Rattle.skew_commands.specs.Refusals.{status_of, text_of}
use Rattle.skew_commands.specs.Stops.{Gives, HasReason}
use Rattle.skew_commands.specs.Tests.{OnFile}
use Rattle.skew_commands.proofs.Possible.{length-refused, longer, only}
use Rattle.skew_commands.proofs.Steps.{At, file-read, gives-weaker, reason-weaker}
use Rattle.skew_cli.specs.declared.limits.TheConstants.{REPORT_LIMIT}
use Rattle.skew_cli.specs.ReportTests.{OnReport, TellsFaultyLine}
use Rattle.skew_cli.specs.TrimOutcome.{CanTrim, CanTrimSection, IsUntrimmedAt, TellsSection, TellsUntrimmed, TrimOfReport, TrimOutcome}
use Rattle.skew_cli.proofs.ReportSteps.{report-read, report-refused}

-- ---- the sections of a report

-- lines that can be trimmed are a section that can
pub lines-can : (lines : List Line) → CanBeTrimmed lines → CanTrimSection (section.Refuted lines)
lines-can lines can n (inl none) = can.some none.0
lines-can lines can n (inr first) = can.back n first

module _ (events : ℕ) (on_true on_false : Section) where
  pub true-told : (s : Stop) → HasReason s (TellsSection part.OnTrue on_true) → HasReason s (TellsUntrimmed (report.Verdicts events on_true on_false))
  true-told s =
      reason-weaker s (TellsSection part.OnTrue on_true) (TellsUntrimmed (report.Verdicts events on_true on_false))
      (λ r told. record { part = part.OnTrue; number = told.number; place = told.place; told = told.told })

  module _ (true_can : CanTrimSection on_true) where
    pub false-told : (s : Stop) → HasReason s (TellsSection part.OnFalse on_false) → HasReason s (TellsUntrimmed (report.Verdicts events on_true on_false))
    false-told s =
        reason-weaker s (TellsSection part.OnFalse on_false) (TellsUntrimmed (report.Verdicts events on_true on_false))
        (λ r told. record { part = part.OnFalse; number = told.number; place = record { true_can = true_can; false_untrimmed = told.place }; told = told.told })

    module _ (false_can : CanTrimSection on_false) where
      can-both : (p : ReportPart) (n : ℕ) → IsUntrimmedAt (report.Verdicts events on_true on_false) p n → ⊥
      can-both part.OnTrue n untrimmed = true_can n untrimmed
      can-both part.OnFalse n untrimmed = false_can n untrimmed.false_untrimmed
      can-both part.Events n untrimmed = untrimmed
      can-both part.Inconsistent n untrimmed = untrimmed

      pub both-can : CanTrim (report.Verdicts events on_true on_false)
      both-can = can-both

pub untrimmed-refused : (r : Report) (s : Stop) → HasReason s (TellsUntrimmed r) → HasReason s (At (TrimOfReport r))
untrimmed-refused r s =
    reason-weaker s (TellsUntrimmed r) (At (TrimOfReport r)) (λ x told. inr (record { part = told.part; number = told.number; place = told.place; refused = rw told.told (refl, refl) }))

-- ---- the file of a report

module _ (files : Files) (name : Word) (file : List ℕ) (held : file_of files name ≡ Some file) (within : length file ≤ REPORT_LIMIT) where
  with-file : (out : List ℕ) (s : Status) → OnReport file TrimOfReport out s → TrimOutcome files name out s
  with-file out s = file-read files name REPORT_LIMIT named.Report (λ bytes. OnReport bytes TrimOfReport) file out s held within

  pub trim-faulty : (s : Stop) → HasReason s (TellsFaultyLine file) → HasReason s (At (TrimOutcome files name))
  trim-faulty s =
      reason-weaker s (TellsFaultyLine file) (At (TrimOutcome files name)) (λ r told. with-file (line (text_of r)) (status_of r) (report-refused file TrimOfReport r told))

  pub trim-given : (r : Report) (result : Result Reply Stop) → ReportOf file (Ok r) → Gives (TrimOfReport r) result → Gives (TrimOutcome files name) result
  trim-given r result is = gives-weaker result (TrimOfReport r) (TrimOutcome files name) (λ out s h. with-file out s (report-read file TrimOfReport r out s is h))

-- ---- some report's file, where none is told

module _ (limit : ℕ) (n : Named) (next : List ℕ → List ℕ → Status → Type 0) where
  abbrev OnSomeReport : List ℕ → Status → Type 0
  OnSomeReport = OfSomeFile (λ files name. OnFile files name limit n next)

  some-long : (s : Stop) → HasReason s (λ r. r ≡ refusal.Length n) → HasReason s (At OnSomeReport)
  some-long s h =
      let long = longer limit in
      reason-weaker s (At (OnFile (only long.0) [] limit n next)) (At OnSomeReport) (λ r due. record { files = only long.0; name = []; due = due })
      (length-refused (only long.0) [] limit n next long.0 refl long.1 s h)

pub some-trim-long : (s : Stop) → HasReason s (λ r. r ≡ refusal.Length named.Report) → HasReason s (At (OfSomeFile TrimOutcome))
some-trim-long = some-long REPORT_LIMIT named.Report (λ bytes. OnReport bytes TrimOfReport)

module _ (file : List ℕ) (within : length file ≤ REPORT_LIMIT) where
  pub some-trim-faulty : (s : Stop) → HasReason s (TellsFaultyLine file) → HasReason s (At (OfSomeFile TrimOutcome))
  some-trim-faulty s h =
      reason-weaker s (At (TrimOutcome (only file) [])) (At (OfSomeFile TrimOutcome)) (λ r due. record { files = only file; name = []; due = due }) (trim-faulty (only file) [] file refl within s h)

  pub some-trim-given : (r : Report) (result : Result Reply Stop) → ReportOf file (Ok r) → Gives (TrimOfReport r) result → Gives (OfSomeFile TrimOutcome) result
  some-trim-given r result is h =
      gives-weaker result (TrimOutcome (only file) []) (OfSomeFile TrimOutcome) (λ out s due. record { files = only file; name = []; due = due })
      (trim-given (only file) [] file refl within r result is h)
