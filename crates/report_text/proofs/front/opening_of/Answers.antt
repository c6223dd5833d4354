use Rattle.report_text.proofs.Fronts.{no-opening}
use Rattle.report_text.proofs.front.opening_of.Goals as goal

pub returns-in_err-kind : goal.returns-in_err-kind
returns-in_err-kind c = rw c.from_residual.ensures (no-opening c.args.line.now c.in_default.ensures c.in_err-kind.ensures)
