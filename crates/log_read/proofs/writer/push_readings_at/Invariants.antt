use Rattle.log_read.specs.LogText.{readings_at}
use Rattle.log_read.proofs.PushedLines.{IsPushedUpTo}
use Rattle.log_read.proofs.writer.push_readings_at.Given as goal

abbrev pub invariant-loop-reading : goal.invariant-loop-reading
invariant-loop-reading l = IsPushedUpTo (λ i readings. readings_at l.hosts l.clocks readings l.place) l.readings l.fn.text.items l.text.items l.reading-index
