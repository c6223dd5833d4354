-- What `check` answers.
use Rattle.std.specs.Prelude.{◌≡◌, ◌||◌, ℕ, Bool, false, IsTrue, List}
use Rattle.mt_model.specs.Form.{Form}
use Rattle.mt_model.specs.Log.{Logged}
use Rattle.mt_port.specs.Port.{Files}
use Rattle.report_text.specs.declared.report.Section.{Section}
use Rattle.report_text.specs.declared.report.Section.TheVariants as section
use Rattle.report_text.specs.declared.report.Report.{Report}
use Rattle.report_text.specs.declared.report.Report.TheVariants as report
use Rattle.report_text.specs.ReportText.{report_text}
use Rattle.verdict.specs.Claims.{Claims}
use Rattle.verdict.specs.Right.{CyclesOnce, HasFewLines, IsRight, is_unknown, is_witness}
use Rattle.skew_answers.specs.declared.status.Status.{Status}
use Rattle.skew_answers.specs.declared.status.Status.TheVariants as status
use Rattle.skew_words.specs.Words.{Word}
use Rattle.skew_best.specs.SizeTests.{OnSize}
use Rattle.skew_commands.specs.Tests.{OnHosts, OnNodes, OnQuestion}

-- the status of the sections for true and for false: Unknown where one of them is, and else whether true alone, false alone or both have a witness
abbrev pub IsVerdictsStatus : Section → Section → Status → Type 0
IsVerdictsStatus (section.Witness t) (section.Witness u) s = s ≡ status.Two
IsVerdictsStatus (section.Witness t) (section.Refuted lines) s = s ≡ status.Zero
IsVerdictsStatus (section.Refuted lines) (section.Witness t) s = s ≡ status.One
IsVerdictsStatus (section.Refuted lines) (section.Refuted others) s = ⊥
IsVerdictsStatus (section.Unknown lines) on_false s = s ≡ status.Unknown
IsVerdictsStatus (section.Witness t) (section.Unknown lines) s = s ≡ status.Unknown
IsVerdictsStatus (section.Refuted lines) (section.Unknown others) s = s ≡ status.Unknown

-- the status of a report
abbrev pub IsReportStatus : Report → Status → Type 0
IsReportStatus (report.Inconsistent events steps) s = s ≡ status.Inconsistent
IsReportStatus (report.Verdicts events on_true on_false) s = IsVerdictsStatus on_true on_false s

-- a section of the report is unknown
abbrev pub is_undecided : Report → Bool
is_undecided (report.Inconsistent events steps) = false
is_undecided (report.Verdicts events on_true on_false) = is_unknown on_true || is_unknown on_false

-- a section for a value is a witness, or there is none at all
abbrev pub IsWitnessed : Report → Type 0
IsWitnessed (report.Inconsistent events steps) = Unit {0}
IsWitnessed (report.Verdicts events on_true on_false) = IsTrue (is_witness on_true || is_witness on_false)

-- the answer is the text and the status of a report that is right; what the report claims is so, a negative cycle in it comes to no moment twice, and lines in it are at most twice as many as the conflicts
pub record Checked (conflicts : ℕ) (f : Form) (log : Logged) (out : List ℕ) (s : Status) : Type 0 where
  pub report : Report
  pub right : IsRight log f conflicts report
  pub claims : Claims log f report
  pub once : CyclesOnce log report
  pub few : HasFewLines conflicts report
  pub written : out ≡ report_text report
  pub status : IsReportStatus report s

-- with the formula and the log read: the formula's hosts, its nodes and the size, and then the report
abbrev pub CheckOfLog : ℕ → List ℕ → Form → Logged → List ℕ → Status → Type 0
CheckOfLog conflicts text f log = OnHosts text f log (OnNodes f (OnSize f log (Checked conflicts f log)))

-- what `check` gives
abbrev pub CheckOutcome : Files → ℕ → Word → Word → List ℕ → Status → Type 0
CheckOutcome files conflicts formula log = OnQuestion files formula log (CheckOfLog conflicts)
