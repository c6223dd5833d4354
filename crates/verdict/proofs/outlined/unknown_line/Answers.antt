use Rattle.verdict.proofs.OutlineAudits.{unknown_wrong}
use Rattle.verdict.proofs.outlined.unknown_line.Goals as goal

pub returns-in-Wrong : goal.returns-in-Wrong
returns-in-Wrong c = λ log f v lines answer learn. unknown_wrong log f c.args.budget v lines c.args.found.check answer c.in-Wrong.line c.in-Wrong.is
