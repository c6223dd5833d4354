-- Which answers have a spelling.
use Rattle.std.specs.Prelude.{ℕ, List, Option, Some, None}
use Rattle.proof_log.specs.declared.line.Line.{Line}
use Rattle.report_text.specs.declared.report.Section.{Section}
use Rattle.report_text.specs.declared.report.Section.TheVariants as section
use Rattle.report_text.specs.Spelled.{AreSpelledLines, IsSpelledSection}
use Rattle.least_skew.specs.declared.tolerance.Tolerance.{Tolerance}
use Rattle.least_skew.specs.declared.tolerance.Tolerance.TheVariants as tolerance
use Rattle.verdict_span.specs.declared.greatest.Widest.{Widest}
use Rattle.verdict_span.specs.declared.greatest.Widest.TheVariants as widest

-- the section has a spelling in a report on some number of events
abbrev pub HasSpelling : Section → Type 0
HasSpelling s = (events : ℕ) × IsSpelledSection events s

-- the lines that refute the value with one less, where there are any, have a spelling
abbrev pub AreSpelledBelow : Option (List Line) → Type 0
AreSpelledBelow None = Unit {0}
AreSpelledBelow (Some lines) = AreSpelledLines lines

-- the timing and the lines of an answer have a spelling
abbrev pub IsSpelledTolerance : Tolerance → Type 0
IsSpelledTolerance (tolerance.Least s times below) = HasSpelling (section.Witness times) × AreSpelledBelow below
IsSpelledTolerance (tolerance.Never lines) = HasSpelling (section.Refuted lines)
IsSpelledTolerance (tolerance.Inconsistent steps) = Unit {0}
IsSpelledTolerance (tolerance.Unknown s lines) = HasSpelling (section.Unknown lines)

-- the same of an answer of span
abbrev pub IsSpelledWidest : Widest → Type 0
IsSpelledWidest (widest.Greatest d times beyond) = HasSpelling (section.Witness times) × AreSpelledLines beyond
IsSpelledWidest (widest.Never lines) = HasSpelling (section.Refuted lines)
IsSpelledWidest (widest.Inconsistent steps) = Unit {0}
IsSpelledWidest (widest.Unknown least lines) = HasSpelling (section.Unknown lines)
