-- The text of an answer of `tolerance`.
use Rattle.std.specs.Prelude.{ℕ, Bool, List, [], ◌++◌, length, codes, Option, Some, None}
use Rattle.std.specs.Fmt.{decimal}
use Rattle.proof_log.specs.declared.line.Line.{Line}
use Rattle.proof_log.specs.LinesText.{lines_text}
use Rattle.report_text.specs.declared.report.Section.{Section}
use Rattle.report_text.specs.declared.report.Section.TheVariants as section
use Rattle.report_text.specs.ReportText.{ended, last_line, section_text}
use Rattle.skew_answers.specs.Texts.{inconsistent_text}
use Rattle.least_skew.specs.declared.tolerance.Tolerance.{Tolerance}
use Rattle.least_skew.specs.declared.tolerance.Tolerance.TheVariants as tolerance

-- the number of lines that refute the value with one less, and the lines; nothing where there are none
abbrev pub below_text : Option (List Line) → List ℕ
below_text None = []
below_text (Some lines) = ended (codes "below refuted " ++ decimal (length lines)) ++ lines_text lines

-- the least widening, a witness of the value with it, and the lines that refute the value with one less, where there are any
abbrev pub widening_text : Bool → ℕ → Section → Option (List Line) → List ℕ
widening_text v s witness below = ended (codes "tolerance " ++ decimal s) ++ (section_text v witness ++ (below_text below ++ ended last_line))

-- the least widening, a witness of the value with it, and the lines that refute the value with one less; or that there is none, and
-- the lines that refute the value; or bounds in conflict; or the widening at which a search spent its conflicts, and its lines
abbrev pub tolerance_text : Bool → Tolerance → List ℕ
tolerance_text v (tolerance.Least s times below) = widening_text v s (section.Witness times) below
tolerance_text v (tolerance.Never lines) = ended (codes "tolerance none") ++ (section_text v (section.Refuted lines) ++ ended last_line)
tolerance_text v (tolerance.Inconsistent steps) = inconsistent_text steps
tolerance_text v (tolerance.Unknown s lines) = ended (codes "tolerance unknown " ++ decimal s) ++ (section_text v (section.Unknown lines) ++ ended last_line)
