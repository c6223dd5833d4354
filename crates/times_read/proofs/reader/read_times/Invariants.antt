use Rattle.std.proofs.Common.{All}
use Rattle.std.specs.Str.Lines.{lines}
use Rattle.mt_model.specs.Log.{IsWithin}
use Rattle.mt_model.specs.declared.limits.TheConstants.{MAX_TIME}
use Rattle.times_read.proofs.Reading.{IsReadUpTo}
use Rattle.times_read.proofs.reader.read_times.Given as goal

abbrev pub invariant-loop-number : goal.invariant-loop-number
invariant-loop-number l = IsReadUpTo (lines l.bytes) (lines l.rest) l.number l.times × All (IsWithin MAX_TIME) l.times
