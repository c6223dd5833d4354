use Rattle.std.proofs.Common.{◌≡◌, ◌<◌, ℕ, true, false}
use Rattle.neg_cycle.specs.Systems.{Meets, edge_at}
use Rattle.neg_cycle.specs.Search.{AreLabels, node_count, room}
use Rattle.neg_cycle.proofs.search.pass.Given as goal

abbrev pub invariant-loop-place : goal.invariant-loop-place
invariant-loop-place l = record {
  labels : AreLabels l.edges l.labels;
  count : node_count l.labels ≡ node_count l.fn.labels;
  same : l.raised ≡ false → l.labels.numbers.items ≡ l.fn.labels.numbers.items;
  met : l.raised ≡ false → (p : ℕ) → p < l.place → Meets l.labels.numbers.items (edge_at l.edges p);
  fell : l.raised ≡ true → room l.labels.numbers.items < room l.fn.labels.numbers.items;
}
