use Rattle.std.proofs.Common.{map}
use Rattle.cdcl_core.specs.Orders.{order_edges}
use Rattle.cdcl_core.proofs.Decisions.{edges_read, orders_by_links}
use Rattle.cdcl_core.proofs.decision.read.Goals as goal

pub returns-then-meet_all-clause-done : goal.returns-then-meet_all-clause-done
returns-then-meet_all-clause-done c =
    let atoms = c.args.theory.now.atoms in
    let values = c.in_ok-values in
    record {
      count = values.ensures.count;
      clauses = rw c.as_slice.ensures.items at (c.meet_all.ensures c.if-meet_all.true);
      orders = orders_by_links atoms (map order_edges atoms) c.args.sight.now.graph.now.numbers values.values (edges_read atoms) values.ensures.orders;
    }
