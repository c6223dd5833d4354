-- Texts of parts of a report, and where reading one of them stops.
use Rattle.std.specs.Prelude.{◌≡◌, ℕ, ℤ, Bool, false, List, ◌++◌, length, All}
use Rattle.std.specs.List.{flat_map}
use Rattle.report_text.specs.declared.part.Kind.{Kind}
use Rattle.report_text.specs.declared.report.Section.{Section}
use Rattle.report_text.specs.declared.report.Report.{Report}
use Rattle.report_text.specs.declared.report.Report.TheVariants as report
use Rattle.report_text.specs.declared.stop.Stop.{Stop}
use Rattle.report_text.specs.declared.stop.Stop.TheVariants as stop
use Rattle.mt_model.specs.declared.limits.TheConstants.{MAX_TIME}
use Rattle.mt_model.specs.Log.{IsWithin}
use Rattle.proof_log.specs.LinesText.{line_text}
use Rattle.proof_log.specs.Spelled.{IsSpelled as IsSpelledLine}
use Rattle.report_text.specs.Parts.{IsFront}
use Rattle.report_text.specs.ReportOf.{AreLines, Begins, NoneGoesOn}
use Rattle.report_text.specs.ReportText.{body_text, bound_text, entries_text, events_of, kind_of, marked_text, section_text, time_text}
use Rattle.report_text.specs.Spelled.{IsSpelled, IsSpelledBound, IsSpelledSection}

-- bytes that begin with no text of a kind: some text begins with the lines before those left, and none with these and the line after them
pub record IsStoppedAt (IsText : List ℕ → Type 0) (bytes : List ℕ) (left : ℕ) : Type 0 where
  pub before : List ℕ
  pub rest : List ℕ
  pub split : bytes ≡ before ++ rest
  pub size : length rest ≡ left
  pub lines : AreLines before
  pub begun : Begins IsText before
  pub faulty : NoneGoesOn IsText before rest
  pub none : (text after : List ℕ) → IsText text → bytes ≡ text ++ after → ⊥

-- reading a text of a kind stopped: at a line, or for want of memory
abbrev pub Stopped : (List ℕ → Type 0) → List ℕ → Stop → Type 0
Stopped IsText bytes (stop.Syntax left) = IsStoppedAt IsText bytes left
Stopped IsText bytes stop.Memory = Unit {0}

-- the texts of so many items
pub record AreItems {X : Type 0} (Is : X → Type 0) (text : X → List ℕ) (count : ℕ) (bytes : List ℕ) : Type 0 where
  pub items : List X
  pub full : length items ≡ count
  pub each : All Is items
  pub are : flat_map text items ≡ bytes

-- so many items that have this text are the ones that were found
abbrev pub FindsItems : {X : Type 0} → (X → Type 0) → (X → List ℕ) → ℕ → List ℕ → List X → Type 0
FindsItems Is text count bytes found = (items : List _) → length items ≡ count → All Is items → flat_map text items ≡ bytes → found ≡ items

-- so many items were read, and the rest follows
pub record AreRead {X : Type 0} (Is : X → Type 0) (text : X → List ℕ) (count : ℕ) (bytes : List ℕ) (items : List X) (rest : List ℕ) : Type 0 where
  pub full : length items ≡ count
  pub each : All Is items
  pub split : bytes ≡ flat_map text items ++ rest

-- a section of this kind in a report on so many events
pub record IsOfKind (events : ℕ) (k : Kind) (s : Section) : Type 0 where
  pub spelled : IsSpelledSection events s
  pub kind : kind_of s ≡ k

-- the lines of a section after its first
pub record AreEntries (events : ℕ) (k : Kind) (bytes : List ℕ) : Type 0 where
  pub section : Section
  pub is : IsOfKind events k section
  pub text : entries_text section ≡ bytes

-- a section
pub record IsSectionText (v : Bool) (events : ℕ) (bytes : List ℕ) : Type 0 where
  pub section : Section
  pub spelled : IsSpelledSection events section
  pub text : section_text v section ≡ bytes

-- two sections without the first line of the first of them
pub record AreVerdicts (events : ℕ) (k : Kind) (bytes : List ℕ) : Type 0 where
  pub on_true : Section
  pub on_false : Section
  pub is : IsOfKind events k on_true
  pub spelled : IsSpelledSection events on_false
  pub text : entries_text on_true ++ section_text false on_false ≡ bytes

-- two sections were read, the first of them without its first line, and the rest follows
pub record AreVerdictsRead (events : ℕ) (k : Kind) (bytes : List ℕ) (r : Report) (rest : List ℕ) : Type 0 where
  pub on_true : Section
  pub on_false : Section
  pub made : r ≡ report.Verdicts events on_true on_false
  pub is : IsOfKind events k on_true
  pub spelled : IsSpelledSection events on_false
  pub split : bytes ≡ (entries_text on_true ++ section_text false on_false) ++ rest

-- a report on so many events has a spelling
pub record IsOn (events : ℕ) (r : Report) : Type 0 where
  pub spelled : IsSpelled r
  pub count : events_of r ≡ events

-- what stands between the number of events and the last line
pub record IsBody (events : ℕ) (bytes : List ℕ) : Type 0 where
  pub report : Report
  pub is : IsOn events report
  pub text : body_text report ≡ bytes

-- a report after the line that names the format
pub record IsMarked (bytes : List ℕ) : Type 0 where
  pub report : Report
  pub spelled : IsSpelled report
  pub text : marked_text report ≡ bytes

-- the texts of so many times
abbrev pub AreTimes : ℕ → List ℕ → Type 0
AreTimes count bytes = AreItems (IsWithin MAX_TIME) time_text count bytes

-- so many times were read, and the rest follows
abbrev pub AreTimesRead : ℕ → List ℕ → List ℤ → List ℕ → Type 0
AreTimesRead count bytes times rest = AreRead (IsWithin MAX_TIME) time_text count bytes times rest

-- the texts of so many bounds of a walk
abbrev pub AreBounds : ℕ → List ℕ → Type 0
AreBounds count bytes = AreItems IsSpelledBound bound_text count bytes

-- the texts of so many lines of a derivation
abbrev pub AreDerivation : ℕ → List ℕ → Type 0
AreDerivation count bytes = AreItems IsSpelledLine line_text count bytes

-- the bytes begin with the lines of a section of this kind after its first, and the rest follows
abbrev pub BeginWithEntries : ℕ → Kind → List ℕ → List ℕ → Type 0
BeginWithEntries events k bytes rest = (s : Section) × IsFront (IsOfKind events k) entries_text bytes s rest
