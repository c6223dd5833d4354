use Rattle.std.proofs.Common.{◌≡◌, ◌≤◌, length, take}
use Rattle.std.specs.Prelude.{vec_capacity}
use Rattle.difference_graph.specs.Incoming.{AreIncoming}
use Rattle.difference_graph.proofs.held.release_to.Given as goal

abbrev pub invariant-loop-held : goal.invariant-loop-held
invariant-loop-held l = record {
  many : l.mark ≤ length l.held.edges.items;
  edges : l.held.edges.items ≡ take (length l.held.edges.items) l.fn.held.edges.items;
  few : length l.held.edges.items ≤ length l.fn.held.edges.items;
  incoming : AreIncoming l.held.edges.items l.held.last.items l.held.before.items;
  nodes : length l.held.last.items ≡ length l.fn.held.last.items;
  edge_room : vec_capacity l.fn.held.edges ≤ vec_capacity l.held.edges;
  before_room : vec_capacity l.fn.held.before ≤ vec_capacity l.held.before;
}

abbrev pub decreases-loop-held : goal.decreases-loop-held
decreases-loop-held l = length l.held.edges.items
