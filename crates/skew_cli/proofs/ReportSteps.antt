-- From what was found of a report's file to what is asked for, and back.
use Rattle.std.proofs.Common.{refl, subst, ℕ, List, Ok, Err}
use Rattle.std.specs.Prelude.{MatchResult, Result}
use Rattle.report_text.specs.declared.fault.ReportFault.{ReportFault}
use Rattle.report_text.specs.declared.fault.ReportFault.TheVariants as report
use Rattle.report_text.specs.declared.report.Report.{Report}
use Rattle.report_text.specs.Laws.{BytesAreUnambiguous}
use Rattle.report_text.specs.ReportOf.{ReportOf}
use Rattle.skew_answers.specs.declared.status.Status.{Status}
use Rattle.skew_answers.specs.Statuses.{IsVerdict}
use Rattle.skew_commands.specs.declared.refusal.Refusal.{Refusal}
use Rattle.skew_commands.specs.declared.refusal.Refusal.TheVariants as refusal
use Rattle.skew_commands.proofs.Steps.{At}
use Rattle.skew_best.proofs.Reaching.{refuses-no_verdict}
use Rattle.skew_cli.specs.ReportTests.{OnReport, RefusesReport, TellsFaultyLine}

module _ (bytes : List ℕ) (next : Report → List ℕ → Status → Type 0) where
  pub report-refused : (r : Refusal) → TellsFaultyLine bytes r → At (OnReport bytes next) r
  report-refused r h = (Err (report.Syntax h.number), h.faulty, rw h.told (refl, refl))

  pub report-read : (r : Report) (out : List ℕ) (s : Status) → ReportOf bytes (Ok r) → next r out s → OnReport bytes next out s
  report-read r out s is h = (Ok r, is, h)

-- what is asked of an answer where the file is known to be this report
pub pass-report : (out : List ℕ) (s : Status) → BytesAreUnambiguous → (bytes : List ℕ) (next : Report → List ℕ → Status → Type 0) (r : Report)
    → ReportOf bytes (Ok r) → OnReport bytes next out s → next r out s
pass-report out s unambiguous bytes next r is h = subst (λ reading. MatchResult reading (λ r. next r out s) (λ fault. RefusesReport fault out s)) (unambiguous bytes h.0 (Ok r) h.1 is) h.2

-- what was read where the answer is no refusal
pub reach-report : (out : List ℕ) (s : Status) → IsVerdict s → (bytes : List ℕ) (next : Report → List ℕ → Status → Type 0) → OnReport bytes next out s
    → (r : Report) × ReportOf bytes (Ok r) × next r out s
reach-report out s verdict bytes next h = go h.0 h.1 h.2
  where
    go : (reading : Result Report ReportFault) → ReportOf bytes reading → MatchResult reading (λ r. next r out s) (λ fault. RefusesReport fault out s)
        → (r : Report) × ReportOf bytes (Ok r) × next r out s
    go (Ok r) is h = (r, is, h)
    go (Err (report.Syntax number)) is h = absurd (refuses-no_verdict (refusal.Report number) out s verdict h)
    go (Err report.Memory) is h = absurd h
