use Rattle.std.proofs.Common.{List, length}
use Rattle.proof_log.specs.declared.line.Line.{Line}
use Rattle.proof_log.specs.LinesOf.{IsTextOf}
use Rattle.proof_trim.proofs.NamedLists.{AreNamedTo}
use Rattle.proof_trim.proofs.named.named_lines.Given as goal

abbrev pub invariant-loop-words : goal.invariant-loop-words
invariant-loop-words l = (lines : List Line) → IsTextOf l.text lines → AreNamedTo lines l.numbers.items l.ends.items l.rest

abbrev pub decreases-loop-words : goal.decreases-loop-words
decreases-loop-words l = length l.rest
