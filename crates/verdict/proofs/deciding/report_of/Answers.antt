use Rattle.std.proofs.Common.{ap, length}
use Rattle.verdict.proofs.Reporting.{inconsistent_right}
use Rattle.verdict.proofs.deciding.report_of.Goals as goal

pub returns-in-Conflict-clause-right : goal.returns-in-Conflict-clause-right
returns-in-Conflict-clause-right c = inconsistent_right c.args.question.log c.args.question.form c.args.budget (length c.rows.result.now) (rw c.log.ensures.log at c.rows.ensures.valid) (ap length (rw c.log.ensures.log at c.rows.ensures.same))
    c.in-Conflict.steps (rw c.in-Conflict.is at c.requires.settled)
