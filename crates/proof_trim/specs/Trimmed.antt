-- What is left of lines without those that the last one does not need.
use Rattle.std.specs.Prelude.{◌≡◌, ◌↔◌, ℕ, zero, suc, ◌-◌, ◌<◌, ◌≤◌, Bool, true, List, length, map, take, Option, Some, None, slice_get, slice_index}
use Rattle.mt_model.specs.Form.{Form}
use Rattle.mt_model.specs.Log.{Logged}
use Rattle.proof_log.specs.declared.line.Hint.{Hint}
use Rattle.proof_log.specs.declared.line.Hint.TheVariants as hint
use Rattle.proof_log.specs.declared.line.Line.{Line}
use Rattle.proof_log.specs.declared.line.Line.TheVariants as line
use Rattle.proof_log.specs.Derivations.{Refutes}
use Rattle.proof_log.specs.Marks.{marked}
use Rattle.proof_trim.specs.Needed.{IsNeeded, Names}

-- the place of line n among those that are marked: how many of the first n lines are
abbrev pub place_of : List Bool → List Line → ℕ → ℕ
place_of marks lines n = length (marked (take n marks) lines)

-- a hint with another number for the line that it names
abbrev pub hint_renumbered : (ℕ → ℕ) → Hint → Hint
hint_renumbered place (hint.Line n) = hint.Line (place n)
hint_renumbered place (hint.Rule r) = hint.Rule r

-- a line with other numbers for the lines that its hints name
abbrev pub renumbered : (ℕ → ℕ) → Line → Line
renumbered place (line.Cycle steps) = line.Cycle steps
renumbered place (line.Learn lits hints) = line.Learn lits (map (hint_renumbered place) hints)

-- a line whose hints name lines 1, 2 and so on by these places instead
abbrev pub moved : List ℕ → Line → Line
moved places l = renumbered (λ n. slice_index places (n - 1)) l

-- the mark of line n
abbrev pub mark_at : List Bool → ℕ → Option Bool
mark_at marks zero = None
mark_at marks (suc n) = slice_get marks n

-- line n is marked
abbrev pub IsMarked : List Bool → ℕ → Type 0
IsMarked marks n = mark_at marks n ≡ Some true

-- the marks are those of the needed lines
pub record AreNeeded (lines : List Line) (marks : List Bool) : Type 0 where
  pub count : length marks ≡ length lines
  pub needed : (n : ℕ) → 1 ≤ n → IsMarked marks n ↔ IsNeeded lines n

-- the needed lines in their order, where a hint that names a line has the place of that line among these
pub record IsTrimOf (lines trimmed : List Line) : Type 0 where
  pub marks : List Bool
  pub needed : AreNeeded lines marks
  pub left : trimmed ≡ map (renumbered (place_of marks lines)) (marked marks lines)

-- each line but the last is named by a hint of a later one
abbrev pub EachIsNamed : List Line → Type 0
EachIsNamed lines = (n : ℕ) → 1 ≤ n → n < length lines → (m : ℕ) × (n < m) × Names lines m n

-- what lines refute, these refute too
abbrev pub KeepsRefuting : List Line → List Line → Type 0
KeepsRefuting lines trimmed = (log : Logged) (f : Form) (v : Bool) → Refutes log f v lines → Refutes log f v trimmed
