use Rattle.std.proofs.Common.{take}
use Rattle.std.specs.Prelude.{All}
use Rattle.mt_model.specs.Walks.{node_count_of}
use Rattle.neg_cycle.specs.Systems.{IsEdge}
use Rattle.skew_bounds.specs.Edges.{AreEdges}
use Rattle.skew_bounds.proofs.consistency.edges_of.Given as goal

abbrev pub invariant-loop-bound : goal.invariant-loop-bound
invariant-loop-bound l = record {
  edges : AreEdges l.log (take l.bound-index l.bounds) l.edges;
  within : All (IsEdge (node_count_of l.log)) l.edges;
}
