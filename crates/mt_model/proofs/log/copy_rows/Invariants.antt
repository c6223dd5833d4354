use Rattle.std.proofs.Common.{◌≡◌, take}
use Rattle.mt_model.proofs.log.copy_rows.Given as goal

abbrev pub invariant-loop-row : goal.invariant-loop-row
invariant-loop-row l = l.list ≡ take l.row-index l.rows
