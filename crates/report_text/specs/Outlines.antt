-- Reports by where their parts stand.
use Rattle.std.specs.Prelude.{◌≡◌, ◌⊎◌, ℕ, Bool, false, List, ◌++◌, length, Result, Ok, Err, MatchResult}
use Rattle.std.specs.List.{flat_map}
use Rattle.mt_model.specs.declared.step.Step.{Step}
use Rattle.report_text.specs.declared.fault.ReportFault.{ReportFault}
use Rattle.report_text.specs.declared.fault.ReportFault.TheVariants as fault
use Rattle.report_text.specs.declared.outline.Outline.{Outline}
use Rattle.report_text.specs.declared.outline.Outline.TheVariants as outline
use Rattle.report_text.specs.declared.outline.SectionOutline.{SectionOutline}
use Rattle.report_text.specs.declared.part.Kind.{Kind}
use Rattle.report_text.specs.declared.report.Section.{Section}
use Rattle.report_text.specs.declared.report.Report.{Report}
use Rattle.report_text.specs.declared.report.Report.TheVariants as report
use Rattle.report_text.specs.Parts.{IsFront, kind_text}
use Rattle.report_text.specs.ReportOf.{ReportOf}
use Rattle.report_text.specs.ReportText.{bound_text, entries_text, kind_of, section_text}
use Rattle.report_text.specs.Spelled.{IsSpelledSection}
use Rattle.report_text.specs.Stops.{AreRead, AreVerdictsRead, IsOfKind}

-- the section is of this kind, and its lines after the first are this text
pub record IsSectionOutline (o : SectionOutline) (s : Section) : Type 0 where
  pub kind : kind_of s ≡ o.kind
  pub text : entries_text s ≡ o.text.now

-- the report is inconsistent, with so many bounds, and their lines are this text
pub record IsWalkOutline (events count : ℕ) (text : List ℕ) (r : Report) : Type 0 where
  pub steps : List Step
  pub is : r ≡ report.Inconsistent events steps
  pub full : length steps ≡ count
  pub are : flat_map bound_text steps ≡ text

-- the report has two sections of these outlines
pub record AreOutlines (events : ℕ) (true_outline false_outline : SectionOutline) (r : Report) : Type 0 where
  pub on_true : Section
  pub on_false : Section
  pub is : r ≡ report.Verdicts events on_true on_false
  pub outlines_true : IsSectionOutline true_outline on_true
  pub outlines_false : IsSectionOutline false_outline on_false

-- the outline is that of the report
abbrev pub IsOutlineOf : Outline → Report → Type 0
IsOutlineOf (outline.Inconsistent events count text) r = IsWalkOutline events count text.now r
IsOutlineOf (outline.Verdicts events on_true on_false) r = AreOutlines events on_true on_false r

-- the bytes begin with the text of a value that has this outline, and the rest follows
pub record IsOutlinedFront {O X : Type 0} (IsOutline : O → X → Type 0) (Is : X → Type 0) (text : X → List ℕ) (bytes : List ℕ) (o : O) (rest : List ℕ) : Type 0 where
  pub value : X
  pub outlined : IsOutline o value
  pub front : IsFront Is text bytes value rest

-- two sections were outlined, the first of them without its first line, and the rest follows
pub record AreVerdictsOutlined (events : ℕ) (k : Kind) (bytes : List ℕ) (o : Outline) (rest : List ℕ) : Type 0 where
  pub value : Report
  pub outlined : IsOutlineOf o value
  pub read : AreVerdictsRead events k bytes value rest

-- so many items were passed, and the rest follows
pub record ArePassed {X : Type 0} (Is : X → Type 0) (text : X → List ℕ) (count : ℕ) (bytes rest : List ℕ) : Type 0 where
  pub items : List X
  pub read : AreRead Is text count bytes items rest

-- the bytes are the text of a report that has this outline
pub record IsOutlineIn (bytes : List ℕ) (o : Outline) : Type 0 where
  pub value : Report
  pub outlined : IsOutlineOf o value
  pub is : ReportOf bytes (Ok value)

-- a call answered the outline of the report that the bytes are, or what the bytes are in place of one, or want of memory
abbrev pub AnswersOutline : List ℕ → Result Outline ReportFault → Type 0
AnswersOutline bytes result = MatchResult result (IsOutlineIn bytes) (λ f. (f ≡ fault.Memory) ⊎ ReportOf bytes (Err f))

-- the lines of a section of this kind after its first were outlined, and the rest follows
abbrev pub AreEntriesOutlined : ℕ → Kind → List ℕ → SectionOutline → List ℕ → Type 0
AreEntriesOutlined events k bytes o rest = IsOutlinedFront IsSectionOutline (IsOfKind events k) entries_text bytes o rest

-- the section of false was outlined, and the rest follows
abbrev pub IsFalseOutlined : ℕ → List ℕ → SectionOutline → List ℕ → Type 0
IsFalseOutlined events bytes o rest = IsOutlinedFront IsSectionOutline (IsSpelledSection events) (section_text false) bytes o rest

-- the text of the section of a truth value that has this outline
abbrev pub outlined_text : Bool → SectionOutline → List ℕ
outlined_text v o = kind_text v o.kind ++ o.text.now
