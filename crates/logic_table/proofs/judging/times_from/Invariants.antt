use Rattle.std.proofs.Common.{All}
use Rattle.mt_model.specs.Log.{IsWithin}
use Rattle.mt_model.specs.declared.limits.TheConstants.{MAX_TIME}
use Rattle.logic_table.proofs.judging.times_from.Given as goal

abbrev pub invariant-loop-number : goal.invariant-loop-number
invariant-loop-number l = All (IsWithin MAX_TIME) l.times
