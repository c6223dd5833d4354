use Rattle.std.proofs.Common.{take}
use Rattle.mt_model.specs.Readings.{AreReadUpTo}
use Rattle.mt_model.proofs.reading.read_in_turn.Given as goal

abbrev pub invariant-loop-reading : goal.invariant-loop-reading
invariant-loop-reading l = AreReadUpTo (take l.reading-index l.readings) l.next
