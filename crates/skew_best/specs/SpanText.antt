-- The text of an answer of `span`.
use Rattle.std.specs.Prelude.{ℕ, Bool, List, ◌++◌, length, codes, Option, Some, None, ℤ}
use Rattle.std.specs.Fmt.{decimal, signed_decimal}
use Rattle.proof_log.specs.declared.line.Line.{Line}
use Rattle.proof_log.specs.LinesText.{lines_text}
use Rattle.report_text.specs.declared.report.Section.{Section}
use Rattle.report_text.specs.declared.report.Section.TheVariants as section
use Rattle.report_text.specs.ReportText.{ended, last_line, section_text}
use Rattle.skew_answers.specs.Texts.{inconsistent_text}
use Rattle.verdict_span.specs.declared.greatest.Widest.{Widest}
use Rattle.verdict_span.specs.declared.greatest.Widest.TheVariants as widest

-- the first line where a search spent its conflicts: that of the log, or of the log in which the second event comes at least so
-- long after the first
abbrev pub unknown_line : Option ℤ → List ℕ
unknown_line None = codes "span unknown"
unknown_line (Some c) = codes "span unknown " ++ signed_decimal c

-- the greatest distance, a witness of the value with it, and the lines that refute the value beyond it
abbrev pub distance_text : Bool → ℤ → Section → List Line → List ℕ
distance_text v d witness beyond =
    ended (codes "span " ++ signed_decimal d) ++ (section_text v witness ++ (ended (codes "beyond refuted " ++ decimal (length beyond)) ++ lines_text beyond ++ ended last_line))

-- the greatest distance, a witness of the value with it, and the lines that refute the value beyond it; or that there is none, and
-- the lines that refute the value; or bounds in conflict; or where a search spent its conflicts, and its lines
abbrev pub span_text : Bool → Widest → List ℕ
span_text v (widest.Greatest d times beyond) = distance_text v d (section.Witness times) beyond
span_text v (widest.Never lines) = ended (codes "span none") ++ (section_text v (section.Refuted lines) ++ ended last_line)
span_text v (widest.Inconsistent steps) = inconsistent_text steps
span_text v (widest.Unknown least lines) = ended (unknown_line least) ++ (section_text v (section.Unknown lines) ++ ended last_line)
