use Rattle.std.proofs.Common.{◌≡◌, length}
use Rattle.cdcl_core.proofs.difference.latest.Given as goal

abbrev pub invariant-loop-edge : goal.invariant-loop-edge
invariant-loop-edge l = length l.numbers.items ≡ l.nodes
