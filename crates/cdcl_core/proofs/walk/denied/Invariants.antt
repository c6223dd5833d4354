use Rattle.std.proofs.Common.{◌≡◌, take}
use Rattle.cdcl_core.specs.Walking.{denied_in}
use Rattle.cdcl_core.proofs.walk.denied.Given as goal

abbrev pub invariant-loop-place : goal.invariant-loop-place
invariant-loop-place l = l.lits.items ≡ denied_in l.base l.orders (take l.place-index l.walk)
