use Rattle.skew_bounds.proofs.RowTables.{AreFirstRows}
use Rattle.skew_bounds.proofs.row_edges.EdgeTable.of.Given as goal

abbrev pub invariant-loop-e : goal.invariant-loop-e
invariant-loop-e l = AreFirstRows l.log l.rows.items l.e
