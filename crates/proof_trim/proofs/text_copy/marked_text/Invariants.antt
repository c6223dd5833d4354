use Rattle.std.proofs.Common.{◌≡◌, List, length}
use Rattle.proof_log.specs.declared.line.Line.{Line}
use Rattle.proof_log.specs.LinesOf.{IsTextOf}
use Rattle.proof_trim.specs.Needed.{NoneForward}
use Rattle.proof_trim.proofs.TextCopying.{IsTextLeftTo}
use Rattle.proof_trim.proofs.text_copy.marked_text.Given as goal

abbrev pub invariant-loop-words : goal.invariant-loop-words
invariant-loop-words l = (lines : List Line) → IsTextOf l.text lines → length l.marks ≡ length lines → NoneForward lines → IsTextLeftTo l.marks lines l.places.items l.left.items l.count l.rest

abbrev pub decreases-loop-words : goal.decreases-loop-words
decreases-loop-words l = length l.rest
