use Rattle.std.proofs.Common.{arith}
use Rattle.skew_bounds.proofs.RowTables.{at-place, past}
use Rattle.skew_bounds.proofs.row_edges.row_at.Goals as goal

pub returns-then-e-rows : goal.returns-then-e-rows
returns-then-e-rows c = rw (← c.get-e.ensures.number) (at-place c.args.log.now c.args.rows.now c.requires c.get-e.result _ c.if-e-rows.true)

pub returns-else-e-rows : goal.returns-else-e-rows
returns-else-e-rows c = past c.args.log.now c.args.e (omega (arith, c.get-e.ensures.number, c.if-e-rows.false, c.requires.count))
