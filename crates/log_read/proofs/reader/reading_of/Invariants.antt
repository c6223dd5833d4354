use Rattle.log_read.proofs.FirstFaults.{IsReadUpTo}
use Rattle.log_read.proofs.reader.reading_of.Given as goal

abbrev pub invariant-loop-i : goal.invariant-loop-i
invariant-loop-i l = IsReadUpTo l.version l.records l.i l.reading
