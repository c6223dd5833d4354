-- Which reports are right for a log, a formula and a number of conflicts, which a search for each value may have.
use Rattle.std.specs.Prelude.{◌≡◌, ℕ, ◌<◌, ◌≤◌, ◌*◌, ◌||◌, List, length, Bool, true, false, IsTrue, ℤ}
use Rattle.mt_model.specs.Form.{Form}
use Rattle.mt_model.specs.Log.{Logged}
use Rattle.mt_model.specs.Timing.{Admissible}
use Rattle.mt_model.specs.Truth.{truth}
use Rattle.skew_bounds.specs.Consistency.{VisitsOnce}
use Rattle.skew_bounds.specs.Tight.{IsConsistent}
use Rattle.axiom_rules.specs.declared.rule.Rule.{Rule}
use Rattle.proof_log.specs.declared.line.Line.{Line}
use Rattle.proof_log.specs.Derivations.{Refutes}
use Rattle.proof_log.specs.Freshness.{Spends}
use Rattle.proof_check.specs.Cycles.{IsCycle}
use Rattle.mtl_encode.specs.Kept.{Kept}
use Rattle.cdcl_core.specs.Founds.{lessons}
use Rattle.report_text.specs.declared.report.Section.{Section}
use Rattle.report_text.specs.declared.report.Section.TheVariants as section
use Rattle.report_text.specs.declared.report.Report.{Report}
use Rattle.report_text.specs.declared.report.Report.TheVariants as report
use Rattle.report_text.specs.ReportText.{events_of}
use Rattle.report_text.specs.Spelled.{IsSpelled}

-- the log admits the timing, and in it the formula has the value
pub record IsWitness (log : Logged) (f : Form) (v : Bool) (t : List ℤ) : Type 0 where
  pub admissible : Admissible log t
  pub value : truth log t 0 f ≡ v

-- the lines refute that the formula has the value, with fewer clauses learnt that aren't empty than the conflicts
pub record IsRefutation (log : Logged) (f : Form) (v : Bool) (conflicts : ℕ) (lines : List Line) : Type 0 where
  pub refutes : Refutes log f v lines
  pub few : lessons lines < conflicts

-- the lines spend the conflicts, over the rules that are kept for the log, the formula and the value
pub record IsSpent (log : Logged) (f : Form) (v : Bool) (conflicts : ℕ) (lines : List Line) : Type 0 where
  pub rules : List Rule
  pub kept : Kept log f v rules
  pub spends : Spends log f v rules conflicts lines

-- the section for a value is right
abbrev pub IsRightSection : Logged → Form → ℕ → Bool → Section → Type 0
IsRightSection log f conflicts v (section.Witness t) = IsWitness log f v t
IsRightSection log f conflicts v (section.Refuted lines) = IsRefutation log f v conflicts lines
IsRightSection log f conflicts v (section.Unknown lines) = IsSpent log f v conflicts lines

-- the section is a witness
abbrev pub is_witness : Section → Bool
is_witness (section.Witness t) = true
is_witness (section.Refuted lines) = false
is_witness (section.Unknown lines) = false

-- the section is unknown
abbrev pub is_unknown : Section → Bool
is_unknown (section.Witness t) = false
is_unknown (section.Refuted lines) = false
is_unknown (section.Unknown lines) = true

-- some timing is admissible, at least one section is a witness, and both sections are right
pub record AreRightVerdicts (log : Logged) (f : Form) (conflicts : ℕ) (on_true on_false : Section) : Type 0 where
  pub consistent : IsConsistent log
  pub witnessed : IsTrue (is_witness on_true || is_witness on_false)
  pub true_right : IsRightSection log f conflicts true on_true
  pub false_right : IsRightSection log f conflicts false on_false

-- the steps are a negative cycle of bounds of the log; or the verdicts are right
abbrev pub SaysRight : Logged → Form → ℕ → Report → Type 0
SaysRight log f conflicts (report.Inconsistent events steps) = IsCycle log steps
SaysRight log f conflicts (report.Verdicts events on_true on_false) = AreRightVerdicts log f conflicts on_true on_false

-- the report has a spelling, is about as many events as the log has rows, and says what is right
pub record IsRight (log : Logged) (f : Form) (conflicts : ℕ) (r : Report) : Type 0 where
  pub spelled : IsSpelled r
  pub events : events_of r ≡ length log.rows
  pub says : SaysRight log f conflicts r

-- no two steps of the negative cycle that a report shows, if it shows one, begin at one moment
abbrev pub CyclesOnce : Logged → Report → Type 0
CyclesOnce log (report.Inconsistent events steps) = VisitsOnce log steps
CyclesOnce log (report.Verdicts events on_true on_false) = Unit {0}

-- the section has no lines, or at most twice as many as the conflicts
abbrev pub HasFewLinesIn : ℕ → Section → Type 0
HasFewLinesIn conflicts (section.Witness t) = Unit {0}
HasFewLinesIn conflicts (section.Refuted lines) = length lines ≤ 2 * conflicts
HasFewLinesIn conflicts (section.Unknown lines) = length lines ≤ 2 * conflicts

-- each section of the report has
abbrev pub HasFewLines : ℕ → Report → Type 0
HasFewLines conflicts (report.Inconsistent events steps) = Unit {0}
HasFewLines conflicts (report.Verdicts events on_true on_false) = HasFewLinesIn conflicts on_true × HasFewLinesIn conflicts on_false
