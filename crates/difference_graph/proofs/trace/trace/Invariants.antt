use Rattle.std.proofs.Common.{◌≤◌}
use Rattle.std.specs.Prelude.{vec_capacity}
use Rattle.difference_graph.proofs.TreeLemmas.{IsTracing}
use Rattle.difference_graph.proofs.trace.trace.Given as goal

abbrev pub invariant-loop-left : goal.invariant-loop-left
invariant-loop-left l = record {
  tracing : IsTracing l.edges l.order l.place l.left l.node l.walk.items;
  room : vec_capacity l.fn.walk ≤ vec_capacity l.walk;
}

abbrev pub decreases-loop-left : goal.decreases-loop-left
decreases-loop-left l = l.left
