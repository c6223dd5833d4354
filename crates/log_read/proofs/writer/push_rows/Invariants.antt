use Rattle.log_read.specs.LogText.{rows_from}
use Rattle.log_read.proofs.PushedLines.{IsPushedUpTo}
use Rattle.log_read.proofs.writer.push_rows.Given as goal

abbrev pub invariant-loop-place : goal.invariant-loop-place
invariant-loop-place l = IsPushedUpTo (rows_from l.log) l.rows l.fn.text.items l.text.items l.place
