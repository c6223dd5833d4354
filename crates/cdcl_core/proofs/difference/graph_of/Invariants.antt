use Rattle.std.proofs.Common.{◌≡◌, ◌+◌, length, take}
use Rattle.cdcl_core.proofs.difference.graph_of.Given as goal

abbrev pub invariant-loop-edge : goal.invariant-loop-edge
invariant-loop-edge l = record {
  nodes : (l.graph).nodes ≡ l.nodes;
  capacity : (l.graph).capacity ≡ length l.edges + l.vars;
  held : (l.graph).edges ≡ take l.edge-index l.edges;
}
