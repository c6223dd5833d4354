-- The text of what is left of lines.
use Rattle.std.specs.Prelude.{◌≡◌, ℕ, ◌≤◌, Bool, List, length, map, ◌++◌, if◌then◌else◌}
use Rattle.proof_log.specs.declared.line.Line.{Line}
use Rattle.proof_log.specs.LinesOf.{IsTextOf}
use Rattle.proof_log.specs.Marks.{marked}
use Rattle.proof_trim.specs.Naming.{AreNamed}
use Rattle.proof_trim.specs.Needed.{NoneForward}
use Rattle.proof_trim.specs.Trimmed.{IsTrimOf, place_of, renumbered, moved}
use Rattle.proof_log.specs.LinesText.{line_text}

-- the lines that are marked, in order, with hints that name lines by their places among these
abbrev pub left_of : List Bool → List Line → List Line
left_of marks lines = map (renumbered (place_of marks lines)) (marked marks lines)

-- the text, and where the line is marked behind it that of the line, whose hints have these new numbers
abbrev pub with_marked : Bool → List ℕ → List ℕ → Line → List ℕ
with_marked mark places text l = if mark then text ++ line_text (moved places l) else text

-- this holds of the lines whose text the bytes are and whose marks these are, if each hint names an earlier line
abbrev pub OfMarked : List ℕ → List Bool → (List Line → Type 0) → Type 0
OfMarked text marks Holds = (lines : List Line) → IsTextOf text lines → length marks ≡ length lines → NoneForward lines → Holds lines

-- this holds of the lines whose text the bytes are and whose hints name these numbers
abbrev pub OfNamed : List ℕ → List ℕ → List ℕ → (List Line → Type 0) → Type 0
OfNamed text numbers ends Holds = (lines : List Line) → IsTextOf text lines → AreNamed lines numbers ends → Holds lines

-- the bytes are the text of what is left of the lines, and so many lines are left
pub record IsTrimmedText (lines : List Line) (bytes : List ℕ) (count : ℕ) : Type 0 where
  pub left : List Line
  pub trim : IsTrimOf lines left
  pub text : IsTextOf bytes left
  pub full : length left ≡ count
  pub fewer : length left ≤ length lines
