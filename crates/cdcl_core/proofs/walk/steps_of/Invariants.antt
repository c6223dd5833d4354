use Rattle.std.proofs.Common.{◌≡◌, map, take, Some}
use Rattle.cdcl_core.specs.Walking.{step_in}
use Rattle.cdcl_core.proofs.walk.steps_of.Given as goal

abbrev pub invariant-loop-place : goal.invariant-loop-place
invariant-loop-place l = map (step_in l.bounds l.atoms l.orders) (take l.place-index l.walk) ≡ map Some l.steps
