-- Laws of the text of lines.
use Rattle.std.specs.Prelude.{◌≡◌, ℕ, List, All, Result, Ok}
use Rattle.std.specs.List.{join_with_byte}
use Rattle.mt_model.specs.declared.step.Step.{Step}
use Rattle.mt_model.specs.Texts.{step_text}
use Rattle.proof_log.specs.declared.fault.LineFault.{LineFault}
use Rattle.proof_log.specs.declared.line.Line.{Line}
use Rattle.proof_log.specs.LinesOf.{LinesOf}
use Rattle.proof_log.specs.LinesText.{lines_text, space, step_words}
use Rattle.proof_log.specs.Spelled.{IsSpelled}

-- bytes are at most one list of lines, or have at most one first faulty line, and not both
abbrev pub BytesAreUnambiguous : Type 0
BytesAreUnambiguous = (bytes : List ℕ) (r s : Result (List Line) LineFault) → LinesOf bytes r → LinesOf bytes s → r ≡ s

-- the text of lines that each have a spelling is that of these lines
abbrev pub TextsReadBack : Type 0
TextsReadBack = (lines : List Line) → All IsSpelled lines → LinesOf (lines_text lines) (Ok lines)

-- lists of lines of one text are equal
abbrev pub TextsTellApart : Type 0
TextsTellApart = (these those : List Line) → All IsSpelled these → All IsSpelled those → lines_text these ≡ lines_text those → these ≡ those

-- a step in a line reads as it does elsewhere
abbrev pub StepsReadAlike : Type 0
StepsReadAlike = (s : Step) → join_with_byte space (step_words s) ≡ step_text s
