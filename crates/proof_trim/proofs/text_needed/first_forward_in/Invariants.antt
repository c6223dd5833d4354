use Rattle.std.proofs.Common.{List}
use Rattle.proof_log.specs.declared.line.Line.{Line}
use Rattle.proof_trim.specs.Naming.{AreNamed}
use Rattle.proof_trim.specs.Needed.{LookBackTo}
use Rattle.proof_trim.proofs.text_needed.first_forward_in.Given as goal

abbrev pub invariant-loop-i : goal.invariant-loop-i
invariant-loop-i l = (lines : List Line) → AreNamed lines l.numbers l.ends → LookBackTo lines l.i
