-- The lines that bytes are, or the first line that is none.
use Rattle.std.specs.Prelude.{◌≡◌, ◌⊎◌, ℕ, ◌+◌, ◌≤◌, List, [], ◌∷◌, ◌++◌, length, All, AllPairs, Option, Some, Result, Ok, Err, MatchResult}
use Rattle.proof_log.specs.declared.fault.LineFault.{LineFault}
use Rattle.proof_log.specs.declared.fault.LineFault.TheVariants as fault
use Rattle.proof_log.specs.declared.line.Line.{Line}
use Rattle.proof_log.specs.declared.line.Line.TheVariants as line
use Rattle.proof_log.specs.LinesText.{line_text, lines_text, newline}
use Rattle.proof_log.specs.Spelled.{IsSpelled}

-- the bytes are the text of these lines
pub record IsTextOf (bytes : List ℕ) (lines : List Line) : Type 0 where
  pub spelled : All IsSpelled lines
  pub text : bytes ≡ lines_text lines

-- the bytes begin with the text of a line
pub record BeginsWithLine (bytes : List ℕ) : Type 0 where
  pub line : Line
  pub spelled : IsSpelled line
  pub after : List ℕ
  pub text : bytes ≡ line_text line ++ after

-- the bytes begin with the text of this line, and the rest follows
pub record IsFrontLine (bytes : List ℕ) (line : Line) (rest : List ℕ) : Type 0 where
  pub spelled : IsSpelled line
  pub split : bytes ≡ line_text line ++ rest

-- what stands before the faulty line is lines, and what comes next is something, but does not begin with the text of a line
pub record IsFaultyAt (bytes : List ℕ) (n : ℕ) : Type 0 where
  pub before : List Line
  pub rest : List ℕ
  pub split : bytes ≡ lines_text before ++ rest
  pub spelled : All IsSpelled before
  pub place : n ≡ length before + 1
  pub some : 1 ≤ length rest
  pub faulty : BeginsWithLine rest → ⊥

-- what bytes are: lines, or a text whose line of that number is faulty
abbrev pub LinesOf : List ℕ → Result (List Line) LineFault → Type 0
LinesOf bytes (Ok lines) = IsTextOf bytes lines
LinesOf bytes (Err (fault.Syntax n)) = IsFaultyAt bytes n
LinesOf bytes (Err fault.Memory) = ⊥

-- a call answered what the bytes are, or want of memory
abbrev pub Answers : List ℕ → Result (List Line) LineFault → Type 0
Answers bytes result = MatchResult result (λ lines. LinesOf bytes (Ok lines)) (λ f. (f ≡ fault.Memory) ⊎ LinesOf bytes (Err f))

-- the bytes, with a newline after them, are the text of this line
pub record IsLine (bytes : List ℕ) (line : Line) : Type 0 where
  pub spelled : IsSpelled line
  pub text : line_text line ≡ bytes ++ newline ∷ []

-- no atom stands twice in a line
abbrev pub HasAtomsOnce : Line → Type 0
HasAtomsOnce (line.Cycle steps) = Unit {0}
HasAtomsOnce (line.Learn lits hints) = AllPairs (λ l m. m.atom ≡ l.atom → ⊥) lits

-- a line was read, and no atom stands twice in it
pub record GivesLine (reading : Option Line) : Type 0 where
  pub line : Line
  pub is : reading ≡ Some line
  pub once : HasAtomsOnce line
