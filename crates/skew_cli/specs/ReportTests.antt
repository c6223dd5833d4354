-- The test that `audit` and `trim` make of the file of a report.
use Rattle.std.specs.Prelude.{◌≡◌, ℕ, List, MatchResult, Result, Err}
use Rattle.report_text.specs.declared.fault.ReportFault.{ReportFault}
use Rattle.report_text.specs.declared.fault.ReportFault.TheVariants as report
use Rattle.report_text.specs.declared.report.Report.{Report}
use Rattle.report_text.specs.ReportOf.{ReportOf}
use Rattle.skew_answers.specs.declared.status.Status.{Status}
use Rattle.skew_commands.specs.declared.refusal.Refusal.{Refusal}
use Rattle.skew_commands.specs.declared.refusal.Refusal.TheVariants as refusal
use Rattle.skew_commands.specs.Refusals.{Refuses}

-- the refusal of a fault of a report file
abbrev pub RefusesReport : ReportFault → List ℕ → Status → Type 0
RefusesReport (report.Syntax number) = Refuses (refusal.Report number)
RefusesReport report.Memory = λ out s. ⊥

-- a report's file: refused at its first faulty line
abbrev pub OnReport : List ℕ → (Report → List ℕ → Status → Type 0) → List ℕ → Status → Type 0
OnReport bytes next out s = (reading : Result Report ReportFault) × ReportOf bytes reading × MatchResult reading (λ r. next r out s) (λ fault. RefusesReport fault out s)

-- the refusal tells the first faulty line of a report file
pub record TellsFaultyLine (bytes : List ℕ) (r : Refusal) : Type 0 where
  pub number : ℕ
  pub faulty : ReportOf bytes (Err (report.Syntax number))
  pub told : r ≡ refusal.Report number
