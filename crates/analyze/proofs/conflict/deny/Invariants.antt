use Rattle.std.proofs.Common.{◌≡◌, map, take}
use Rattle.analyze.specs.Resolving.{denied}
use Rattle.analyze.proofs.conflict.deny.Given as goal

abbrev pub invariant-loop-place : goal.invariant-loop-place
invariant-loop-place l = l.lits.items ≡ map (denied l.trail.entries) (take l.place-index l.places)
