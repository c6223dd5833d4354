use Rattle.std.proofs.Common.{arith, map}
use Rattle.std.proofs.lemmas.List.{length_push}
use Rattle.cdcl_core.specs.Orders.{order_edges}
use Rattle.cdcl_core.proofs.Decisions.{order_values_next}
use Rattle.cdcl_core.proofs.read_off.values_in.Goals as goal

pub loop-v-preserved : goal.loop-v-preserved
loop-v-preserved c =
    let values = c.loop-v.values in
    let b = c.value_in-value.result in
    let count = c.loop-v.invariant.count in
    let here = rw c.new.ensures.number at c.value_in-value.ensures.order in
    rw c.in_ok-push.ensures.ok (record {
      count = omega (arith, count, length_push values b);
      orders = order_values_next (map order_edges c.args.atoms.now) c.args.sight.now.graph.now.numbers values c.loop-v.v b count c.loop-v.invariant.orders here;
    })
