use Rattle.verdict.proofs.OutlineAudits.{refuted_shows, refuted_whole, refuted_wrong}
use Rattle.verdict.proofs.outlined.refuted_line.Goals as goal

pub returns-in-Refutes : goal.returns-in-Refutes
returns-in-Refutes c = λ log f v lines answer budget. refuted_shows log f budget v lines c.args.check answer c.in-Refutes.is

pub returns-in-Derives : goal.returns-in-Derives
returns-in-Derives c = λ log f v lines answer budget. refuted_whole log f budget v lines c.args.check answer c.in-Derives.is

pub returns-in-Wrong : goal.returns-in-Wrong
returns-in-Wrong c = λ log f v lines answer budget. refuted_wrong log f budget v lines c.args.check answer c.in-Wrong.line c.in-Wrong.is
