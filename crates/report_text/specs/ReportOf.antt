-- The report that bytes are, or the first line with which no report begins.
use Rattle.std.specs.Prelude.{◌≡◌, ◌⊎◌, ℕ, ◌+◌, ◌≤◌, List, [], ◌++◌, length, All, Result, Ok, Err, MatchResult, false, count_by}
use Rattle.memchr.specs.Find.{is_byte}
use Rattle.proof_log.specs.LinesText.{newline}
use Rattle.report_text.specs.declared.report.Report.{Report}
use Rattle.report_text.specs.declared.fault.ReportFault.{ReportFault}
use Rattle.report_text.specs.declared.fault.ReportFault.TheVariants as fault
use Rattle.report_text.specs.ReportText.{ended, report_text}
use Rattle.report_text.specs.Spelled.{IsSpelled}

-- the bytes are the text of this report
pub record IsTextOf (bytes : List ℕ) (r : Report) : Type 0 where
  pub spelled : IsSpelled r
  pub text : report_text r ≡ bytes

-- the bytes are the text of a report
abbrev pub IsReport : List ℕ → Type 0
IsReport bytes = (r : Report) × IsTextOf bytes r

-- some text of a kind begins with the bytes
pub record Begins (IsText : List ℕ → Type 0) (bytes : List ℕ) : Type 0 where
  pub text : List ℕ
  pub is : IsText text
  pub after : List ℕ
  pub begins : text ≡ bytes ++ after

-- no byte is a newline
abbrev pub LacksNewline : List ℕ → Type 0
LacksNewline bytes = All (λ b. is_byte newline b ≡ false) bytes

-- the bytes are lines, each with its newline
abbrev pub AreLines : List ℕ → Type 0
AreLines bytes = (bytes ≡ []) ⊎ ((front : List ℕ) × (bytes ≡ ended front))

-- where a line with its newline comes next, no text of a kind begins with the lines before it and this line
abbrev pub NoneGoesOn : (List ℕ → Type 0) → List ℕ → List ℕ → Type 0
NoneGoesOn IsText before rest = (line after : List ℕ) → LacksNewline line → rest ≡ ended line ++ after → Begins IsText (before ++ ended line) → ⊥

-- the number of newlines
abbrev pub lines_in : List ℕ → ℕ
lines_in bytes = count_by (is_byte newline) bytes

-- the bytes are no report; a report begins with the lines before the faulty one, but none with these and the line after them, which may lack its newline or be missing
pub record IsFaultyAt (bytes : List ℕ) (n : ℕ) : Type 0 where
  pub before : List ℕ
  pub rest : List ℕ
  pub split : bytes ≡ before ++ rest
  pub lines : AreLines before
  pub place : n ≡ lines_in before + 1
  pub begun : Begins IsReport before
  pub faulty : NoneGoesOn IsReport before rest
  pub no_report : IsReport bytes → ⊥

-- what bytes are: a report, or a text whose line of that number is faulty
abbrev pub ReportOf : List ℕ → Result Report ReportFault → Type 0
ReportOf bytes (Ok r) = IsTextOf bytes r
ReportOf bytes (Err (fault.Syntax n)) = IsFaultyAt bytes n
ReportOf bytes (Err fault.Memory) = ⊥

-- a call answered what the bytes are, or want of memory
abbrev pub Answers : List ℕ → Result Report ReportFault → Type 0
Answers bytes result = MatchResult result (λ r. ReportOf bytes (Ok r)) (λ f. (f ≡ fault.Memory) ⊎ ReportOf bytes (Err f))

-- the bytes are the text of a report that ends too early: they are this text without its last bytes, one at least
pub record IsCutShort (bytes : List ℕ) : Type 0 where
  pub report : Report
  pub spelled : IsSpelled report
  pub lost : List ℕ
  pub some : 1 ≤ length lost
  pub text : report_text report ≡ bytes ++ lost

-- a call answered that the line after the bytes' last newline is faulty, or want of memory
abbrev pub IsFaultyAtEnd : List ℕ → Result Report ReportFault → Type 0
IsFaultyAtEnd bytes result = MatchResult result (λ r. ⊥) (λ f. (f ≡ fault.Memory) ⊎ (f ≡ fault.Syntax (lines_in bytes + 1)))
