use Rattle.skew_bounds.specs.Incoming.{lists_of}
use Rattle.skew_bounds.proofs.Columns.{AreHeldUpTo}
use Rattle.skew_bounds.proofs.difference_table.table_by.Given as goal

abbrev pub invariant-loop-node : goal.invariant-loop-node
invariant-loop-node l = AreHeldUpTo l.nodes (lists_of l.incoming) l.zero.items l.node l.columns.items
