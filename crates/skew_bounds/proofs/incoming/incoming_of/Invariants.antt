use Rattle.std.proofs.Common.{take}
use Rattle.skew_bounds.specs.Incoming.{AreIncoming, lists_of}
use Rattle.skew_bounds.proofs.incoming.incoming_of.Given as goal

abbrev pub invariant-loop-edge : goal.invariant-loop-edge
invariant-loop-edge l = AreIncoming l.nodes (take l.edge-index l.edges) (lists_of l.lists.items)
