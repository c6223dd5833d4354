use Rattle.std.proofs.Common.{◌≡◌, take}
use Rattle.mt_model.proofs.log.copy_clocks.Given as goal

abbrev pub invariant-loop-clock : goal.invariant-loop-clock
invariant-loop-clock l = l.list ≡ take l.clock-index l.clocks
