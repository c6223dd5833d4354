-- What `demo` answers.
use Rattle.std.specs.Prelude.{◌≡◌, ℕ, Bool, true, false, List, [], ◌++◌, codes, if◌then◌else◌}
use Rattle.std.specs.Fmt.{decimal}
use Rattle.report_text.specs.declared.report.Section.{Section}
use Rattle.report_text.specs.declared.report.Section.TheVariants as section
use Rattle.report_text.specs.declared.report.Report.{Report}
use Rattle.report_text.specs.declared.report.Report.TheVariants as report
use Rattle.report_text.specs.ReportText.{report_text, value_word}
use Rattle.verdict.specs.Claims.{Claims}
use Rattle.verdict.specs.Right.{HasFewLines, IsRight}
use Rattle.skew_words.specs.declared.limits.TheConstants.{DEFAULT_CONFLICTS}
use Rattle.skew_answers.specs.declared.status.Status.{Status}
use Rattle.demo_log.specs.DemoFormula.{demo_formula}
use Rattle.demo_log.specs.DemoLog.{log_of_seed}
use Rattle.skew_answers.specs.Texts.{line}
use Rattle.skew_cli.specs.CheckOutcome.{IsReportStatus, is_undecided}

-- what a summary says of a value by the section for it: a witness names the value, an unknown section names it with `?`, and a refuted one doesn't
abbrev pub named_value : Bool → Section → List ℕ
named_value v (section.Witness t) = codes " " ++ value_word v
named_value v (section.Refuted lines) = []
named_value v (section.Unknown lines) = codes " " ++ value_word v ++ codes "?"

-- the values that a summary names, true before false
abbrev pub named_values : Report → List ℕ
named_values (report.Inconsistent events steps) = []
named_values (report.Verdicts events on_true on_false) = named_value true on_true ++ named_value false on_false

-- the summary: the seed, how large its log is, and the values
abbrev pub summary_text : ℕ → Report → List ℕ
summary_text seed r = line (codes "demo " ++ decimal seed) ++ line (codes "hosts 6 rows 24") ++ line (codes "values" ++ named_values r)

-- the summary, and the report itself where a section is unknown
abbrev pub demo_text : ℕ → Report → List ℕ
demo_text seed r = summary_text seed r ++ (if is_undecided r then report_text r else [])

-- what `demo` gives: the summary and the status of a report that is right for the log of the seed, with few lines, and what the report claims is so. No test refuses the log and the formula
pub record DemoOutcome (seed : ℕ) (out : List ℕ) (s : Status) : Type 0 where
  pub report : Report
  pub right : IsRight (log_of_seed seed) demo_formula DEFAULT_CONFLICTS report
  pub claims : Claims (log_of_seed seed) demo_formula report
  pub few : HasFewLines DEFAULT_CONFLICTS report
  pub written : out ≡ demo_text seed report
  pub status : IsReportStatus report s
