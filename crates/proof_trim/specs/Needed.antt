-- The lines of a derivation that its last line needs. Lines count from 1.
use Rattle.std.specs.Prelude.{◌≡◌, ℕ, ◌<◌, ◌≤◌, List, length, All, Contains, Some}
use Rattle.proof_log.specs.declared.line.Hint.{Hint}
use Rattle.proof_log.specs.declared.line.Hint.TheVariants as hint
use Rattle.proof_log.specs.declared.line.Line.{Line}
use Rattle.proof_log.specs.declared.line.Line.TheVariants as line
use Rattle.proof_log.specs.Derivations.{line_at}

-- a hint of a line names line n
abbrev pub LineNames : Line → ℕ → Type 0
LineNames (line.Cycle steps) n = ⊥
LineNames (line.Learn lits hints) n = Contains hints (hint.Line n)

-- a hint of line m names line n
pub record Names (lines : List Line) (m n : ℕ) : Type 0 where
  pub line : Line
  pub stands : line_at lines m ≡ Some line
  pub named : LineNames line n

-- the needed lines: the last one, and each that a hint of a needed line names
pub data IsNeeded (lines : List Line) : ℕ → Type 0 where
  Last : IsNeeded lines (length lines)
  Named : (m n : ℕ) → IsNeeded lines m → Names lines m n → IsNeeded lines n

-- a hint of a line of this number, if it names a line, names an earlier one
abbrev pub NamesEarlier : ℕ → Hint → Type 0
NamesEarlier number (hint.Line n) = (1 ≤ n) × (n < number)
NamesEarlier number (hint.Rule r) = Unit {0}

-- so does each hint of the line
abbrev pub LooksBack : ℕ → Line → Type 0
LooksBack number (line.Cycle steps) = Unit {0}
LooksBack number (line.Learn lits hints) = All (NamesEarlier number) hints

-- each line up to this one looks back
abbrev pub LookBackTo : List Line → ℕ → Type 0
LookBackTo lines n = (m : ℕ) (l : Line) → m ≤ n → line_at lines m ≡ Some l → LooksBack m l

-- no line has a hint that names a line which does not come before it
abbrev pub NoneForward : List Line → Type 0
NoneForward lines = LookBackTo lines (length lines)

-- the line is the first one that has such a hint
pub record IsFirstForward (lines : List Line) (n : ℕ) : Type 0 where
  pub before : (m : ℕ) (l : Line) → m < n → line_at lines m ≡ Some l → LooksBack m l
  pub line : Line
  pub stands : line_at lines n ≡ Some line
  pub forward : LooksBack n line → ⊥
