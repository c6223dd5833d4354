use Rattle.std.proofs.Common.{length}
use Rattle.verdict.proofs.OutlineAudits.{judged_refuted, judged_unknown}
use Rattle.verdict.proofs.outlined.failing_line.Goals as goal

pub returns-in_ok-found-in-Refuted : goal.returns-in_ok-found-in-Refuted
returns-in_ok-found-in-Refuted c =
    let log = c.args.question.now.log in
    let f = c.args.question.now.form in
    judged_refuted log f c.args.budget c.args.value (length log.rows) c.args.outline c.refuted_line.result c.in-Refuted.field-0 c.in-Refuted.is
    (λ lines of. c.refuted_line.ensures log f c.args.value lines (c.in_ok-found-in-Refuted.ensures.answer lines of) c.args.budget)

pub returns-in_ok-found-in-Unknown : goal.returns-in_ok-found-in-Unknown
returns-in_ok-found-in-Unknown c =
    let log = c.args.question.now.log in
    let f = c.args.question.now.form in
    judged_unknown log f c.args.budget c.args.value (length log.rows) c.args.outline c.unknown_line.result c.in-Unknown.field-0 c.in-Unknown.is
    (λ lines of. c.unknown_line.ensures log f c.args.value lines (c.in_ok-found-in-Unknown.ensures.answer lines of) (c.in_ok-found-in-Unknown.ensures.learn lines of))
