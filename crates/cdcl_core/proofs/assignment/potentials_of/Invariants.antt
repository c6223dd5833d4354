use Rattle.std.proofs.Common.{◌≡◌, take}
use Rattle.cdcl_core.proofs.assignment.potentials_of.Given as goal

abbrev pub invariant-loop-node : goal.invariant-loop-node
invariant-loop-node l = l.numbers ≡ take l.node (l.graph).numbers
