use Rattle.std.proofs.Common.{rules}
use Rattle.skew_bounds.proofs.RowTables.{one-more}
use Rattle.skew_bounds.proofs.row_edges.EdgeTable.of.Goals as goal

pub loop-e-preserved : goal.loop-e-preserved
loop-e-preserved c = search (rules, one-more)
