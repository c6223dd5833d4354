use Rattle.std.proofs.Common.{◌≡◌, List, length}
use Rattle.proof_log.specs.declared.line.Line.{Line}
use Rattle.proof_trim.specs.Naming.{AreNamed}
use Rattle.proof_trim.specs.Needed.{NoneForward}
use Rattle.proof_trim.proofs.Marking.{NeededAfter}
use Rattle.proof_trim.proofs.text_needed.needed_in.Given as goal

abbrev pub invariant-loop-i : goal.invariant-loop-i
invariant-loop-i l = (length l.marks.items ≡ length l.ends) × ((lines : List Line) → AreNamed lines l.numbers l.ends → NoneForward lines → NeededAfter lines l.i l.marks.items)
