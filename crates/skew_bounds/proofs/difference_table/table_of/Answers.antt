use Rattle.std.proofs.Common.{◌+◌, length}
use Rattle.std.proofs.lemmas.Result.{IfOk-weaker}
use Rattle.skew_bounds.specs.Differences.{IsOfRows}
use Rattle.skew_bounds.specs.Incoming.{lists_of}
use Rattle.skew_bounds.specs.Table.{IsTableOf}
use Rattle.mt_model.specs.Walks.{node_count_of}
use Rattle.skew_bounds.specs.Tight.{IsTight}
use Rattle.skew_bounds.proofs.EdgeLists.{network-of}
use Rattle.skew_bounds.proofs.Near.{times-near}
use Rattle.skew_bounds.proofs.Tightest.{exact, near-of, of-rows}
use Rattle.skew_bounds.proofs.difference_table.table_of.Goals as goal

pub table_by-requires-clause-network : goal.table_by-requires-clause-network
table_by-requires-clause-network c =
    let lists = rw (c.node_count.ensures.count, c.as_slice.ensures.items) at c.in_ok-incoming.ensures in
    rw c.deref.ensures.value (network-of (node_count_of c.args.log.now) c.args.system.now.edges (lists_of c.in_ok-incoming.incoming.items) lists c.requires.system.within)

pub table_by-requires-clause-potential : goal.table_by-requires-clause-potential
table_by-requires-clause-potential c =
    let are = rw (c.requires.system.bounds) at c.requires.system.edges in
    let lists = rw (c.node_count.ensures.count, c.as_slice.ensures.items) at c.in_ok-incoming.ensures in
    rw (c.deref.ensures.value, c.deref-2.ensures.value, c.in_ok-potential.ensures)
    (near-of c.bounds_are_admissible.ensures c.args.log.now c.log_is_valid.ensures.valid c.args.system.now.edges
    (lists_of c.in_ok-incoming.incoming.items) are c.requires.system.within lists c.args.times.now c.requires.admissible)

pub node_times-requires-clause-range : goal.node_times-requires-clause-range
node_times-requires-clause-range c = times-near c.args.log.now c.log_is_valid.ensures.valid c.args.times.now c.requires.admissible

pub returns : goal.returns
returns c =
    let log = c.args.log.now in
    let law = c.bounds_are_admissible.ensures in
    let valid = c.log_is_valid.ensures.valid in
    let edges = c.args.system.now.edges in
    let within = c.requires.system.within in
    let incoming = lists_of c.in_ok-incoming.incoming.items in
    let are = rw (c.requires.system.bounds) at c.requires.system.edges in
    let lists = rw (c.node_count.ensures.count, c.as_slice.ensures.items) at c.in_ok-incoming.ensures in
    let table = rw (c.rows.ensures.same, c.deref.ensures.value) at c.table_by.ensures in
    record {
      exact = IfOk-weaker c.table_by.result (IsTableOf (length log.rows + 1) incoming) (IsTight log) (exact law log valid edges incoming are within lists) table;
      rows = IfOk-weaker c.table_by.result (IsTableOf (length log.rows + 1) incoming) IsOfRows (of-rows law log valid edges incoming are within lists) table;
    }
