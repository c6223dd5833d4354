use Rattle.std.proofs.Common.{◌≡◌, ◌++◌, length}
use Rattle.proof_check.proofs.atoms.move_all.Given as goal

abbrev pub invariant-each : goal.invariant-each
invariant-each l = l.atoms.items ++ l.set.keys ≡ l.fn.atoms.items ++ l.fn.set.keys

abbrev pub decreases-each : goal.decreases-each
decreases-each l = length l.set.keys
