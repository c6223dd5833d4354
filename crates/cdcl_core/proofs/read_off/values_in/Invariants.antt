use Rattle.std.proofs.Common.{◌≡◌, ◌↔◌, ℕ, ◌<◌, length, map}
use Rattle.std.specs.Prelude.{IfSome, IsTrue}
use Rattle.neg_cycle.specs.Systems.{Meets}
use Rattle.propagate.specs.Links.{edges_at}
use Rattle.mtl_encode.specs.Models.{value_at}
use Rattle.cdcl_core.specs.Orders.{order_edges}
use Rattle.cdcl_core.proofs.read_off.values_in.Given as goal

abbrev pub invariant-loop-v : goal.invariant-loop-v
invariant-loop-v l = record {
  count : length l.values ≡ l.v;
  orders : (w : ℕ) → w < l.v → IfSome (edges_at (map order_edges l.atoms) w) (λ both. IsTrue (value_at l.values w) ↔ Meets l.sight.graph.now.numbers both.0);
}
