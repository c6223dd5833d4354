use Rattle.std.proofs.Common.{◌≡◌, []}
use Rattle.std.specs.Prelude.{replicate}
use Rattle.skew_bounds.specs.Incoming.{lists_of}
use Rattle.skew_bounds.proofs.incoming.empty.Given as goal

abbrev pub invariant-loop-node : goal.invariant-loop-node
invariant-loop-node l = lists_of l.lists.items ≡ replicate l._node []
