-- The one text of a report.
use Rattle.std.specs.Prelude.{ℕ, Bool, true, false, List, [], ◌∷◌, ◌++◌, length, codes, if◌then◌else◌, ℤ}
use Rattle.std.specs.Fmt.{decimal, signed_decimal}
use Rattle.std.specs.List.{flat_map}
use Rattle.mt_model.specs.declared.step.Step.{Step}
use Rattle.mt_model.specs.Texts.{step_text}
use Rattle.proof_log.specs.LinesText.{lines_text, newline}
use Rattle.report_text.specs.declared.part.Kind.{Kind}
use Rattle.report_text.specs.declared.part.Kind.TheVariants as kind
use Rattle.report_text.specs.declared.report.Section.{Section}
use Rattle.report_text.specs.declared.report.Section.TheVariants as section
use Rattle.report_text.specs.declared.report.Report.{Report}
use Rattle.report_text.specs.declared.report.Report.TheVariants as report

-- a line with its newline
abbrev pub ended : List ℕ → List ℕ
ended line = line ++ newline ∷ []

-- the name of the format and its version
abbrev pub mark : List ℕ
mark = codes "skewcheck 1"

-- the line with the number of events
abbrev pub events_line : ℕ → List ℕ
events_line events = codes "events " ++ decimal events

-- the last line
abbrev pub last_line : List ℕ
last_line = codes "end"

-- the line of a time
abbrev pub time_text : ℤ → List ℕ
time_text t = ended (signed_decimal t)

-- the line of a bound of a log
abbrev pub bound_text : Step → List ℕ
bound_text s = ended (step_text s)

-- the word of a truth value
abbrev pub value_word : Bool → List ℕ
value_word v = if v then codes "true" else codes "false"

-- the first line of a section of this kind of a truth value
abbrev pub kind_line : Bool → Kind → List ℕ
kind_line v kind.Witness = value_word v ++ codes " witness"
kind_line v (kind.Refuted n) = value_word v ++ (codes " refuted " ++ decimal n)
kind_line v (kind.Unknown n) = value_word v ++ (codes " unknown " ++ decimal n)

-- what its first line says of a section
abbrev pub kind_of : Section → Kind
kind_of (section.Witness times) = kind.Witness
kind_of (section.Refuted lines) = kind.Refuted (length lines)
kind_of (section.Unknown lines) = kind.Unknown (length lines)

-- the first line of the section of a truth value
abbrev pub section_line : Bool → Section → List ℕ
section_line v s = kind_line v (kind_of s)

-- its other lines: the times of a witness, or a derivation
abbrev pub entries_text : Section → List ℕ
entries_text (section.Witness times) = flat_map time_text times
entries_text (section.Refuted lines) = lines_text lines
entries_text (section.Unknown lines) = lines_text lines

-- the section of a truth value
abbrev pub section_text : Bool → Section → List ℕ
section_text v s = ended (section_line v s) ++ entries_text s

-- the number of bounds of a walk, and the bounds
abbrev pub walk_text : List Step → List ℕ
walk_text steps = ended (codes "inconsistent " ++ decimal (length steps)) ++ flat_map bound_text steps

-- how many events a report is on
abbrev pub events_of : Report → ℕ
events_of (report.Inconsistent events steps) = events
events_of (report.Verdicts events on_true on_false) = events

-- a walk, or the true section and the false section
abbrev pub body_text : Report → List ℕ
body_text (report.Inconsistent events steps) = walk_text steps
body_text (report.Verdicts events on_true on_false) = section_text true on_true ++ section_text false on_false

-- the number of events, the walk or the sections, and the last line
abbrev pub marked_text : Report → List ℕ
marked_text r = ended (events_line (events_of r)) ++ (body_text r ++ ended last_line)

-- a report: the line of the format, and what follows it
abbrev pub report_text : Report → List ℕ
report_text r = ended mark ++ marked_text r
