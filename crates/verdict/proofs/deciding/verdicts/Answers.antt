use Rattle.std.proofs.Common.{◌∙◌, sym, ap, length}
use Rattle.verdict.proofs.Reporting.{false_witnessed, true_witnessed}
use Rattle.verdict.proofs.deciding.verdicts.Goals as goal

pub returns-then-value-clause-right : goal.returns-then-value-clause-right
returns-then-value-clause-right c =
    let value = rw c.as_slice.ensures.items at c.in_ok-value.ensures.value in
    let right = rw c.if-value.true at c.in_ok-other.ensures.right in
    true_witnessed c.args.question.log c.args.question.form c.args.budget (length c.rows.result.now) (rw c.log-log.ensures.log at c.rows.ensures.valid) (ap length (rw c.log-log.ensures.log at c.rows.ensures.same))
    c.args.times c.requires.admissible c.in_ok-other.other c.in_ok-other.ensures.spelled (sym value ∙ c.if-value.true) right

pub returns-else-value-clause-right : goal.returns-else-value-clause-right
returns-else-value-clause-right c =
    let value = rw c.as_slice.ensures.items at c.in_ok-value.ensures.value in
    let right = rw c.if-value.false at c.in_ok-other.ensures.right in
    false_witnessed c.args.question.log c.args.question.form c.args.budget (length c.rows.result.now) (rw c.log-log.ensures.log at c.rows.ensures.valid) (ap length (rw c.log-log.ensures.log at c.rows.ensures.same))
    c.args.times c.requires.admissible c.in_ok-other.other c.in_ok-other.ensures.spelled (sym value ∙ c.if-value.false) right
