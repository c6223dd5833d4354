use Rattle.std.proofs.Common.{◌≡◌}
use Rattle.neg_cycle.specs.Search.{AreLabels, node_count, room}
use Rattle.neg_cycle.proofs.search.solve.Given as goal

abbrev pub invariant-passes : goal.invariant-passes
invariant-passes l = record {
  labels : AreLabels l.edges l.labels;
  count : node_count l.labels ≡ l.nodes;
}

abbrev pub decreases-passes : goal.decreases-passes
decreases-passes l = room l.labels.numbers.items
