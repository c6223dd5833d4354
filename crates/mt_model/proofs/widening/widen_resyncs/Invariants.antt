use Rattle.std.proofs.Common.{◌≡◌, ◌++◌, drop, map, take}
use Rattle.mt_model.specs.Log.{widened_resync}
use Rattle.mt_model.proofs.widening.widen_resyncs.Given as goal

abbrev pub invariant-loop-resync : goal.invariant-loop-resync
invariant-loop-resync l = l.resyncs ≡ map (widened_resync l.s) (take l.resync-index l.initial.resyncs) ++ drop l.resync-index l.initial.resyncs
