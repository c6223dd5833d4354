use Rattle.std.proofs.Common.{take}
use Rattle.proof_check.specs.Walking.{HasRoom, HasWalked}
use Rattle.proof_check.proofs.cycle.check_cycle.Given as goal

abbrev pub invariant-loop-step : goal.invariant-loop-step
invariant-loop-step l = HasWalked l.log (take l.step-index l.steps) l.walk × HasRoom l.walk
