use Rattle.std.proofs.lemmas.Result.{err_from_is_err_and}
use Rattle.mt_model.specs.Form.{form_of}
use Rattle.skew_commands.proofs.Possible.{question-refused, some-question-given}
use Rattle.skew_commands.proofs.Questions.{question-given, question-stopped}
use Rattle.skew_best.specs.ToleranceOutcome.{ToleranceOfLog}
use Rattle.skew_best.proofs.tolerating.tolerance.Goals as goal

pub tolerance_of_question-requires-clause-skews : goal.tolerance_of_question-requires-clause-skews
tolerance_of_question-requires-clause-skews g c =
    let read = c.in_ok-question.ensures.some_read in
    let plain = c.logs_are_plain.ensures read.file c.in_ok-question.question.log read.log_read in
    record { hosts = plain.skews; resyncs = plain.resyncs }

pub returns-in_err-question-clause-outcome : goal.returns-in_err-question-clause-outcome
returns-in_err-question-clause-outcome g c = λ tells.
    let p = err_from_is_err_and c.from_residual.result c.from_residual.ensures.1 in
    let held = g.S.Shelf.files c.args.shelf.now in
    rw (p.1, p.2)
    (question-stopped held c.args.formula.now c.args.log.now (ToleranceOfLog c.args.widening.conflicts c.args.widening.value c.args.widening.max) c.in_err-question.field-0.0 (c.in_err-question.ensures.refused tells))

pub returns-clause-outcome : goal.returns-clause-outcome
returns-clause-outcome g c = λ tells.
    let held = g.S.Shelf.files c.args.shelf.now in
    let q = c.in_ok-question.question in
    question-given held c.args.formula.now c.args.log.now (ToleranceOfLog c.args.widening.conflicts c.args.widening.value c.args.widening.max) q.text.items
    (form_of q.formula) q.log c.tolerance_of_question.result (c.in_ok-question.ensures.read tells)
    c.tolerance_of_question.ensures.outcome

pub returns-in_err-question-clause-possible : goal.returns-in_err-question-clause-possible
returns-in_err-question-clause-possible g c =
    let p = err_from_is_err_and c.from_residual.result c.from_residual.ensures.1 in
    rw (p.1, p.2) (question-refused (λ files. ToleranceOfLog c.args.widening.conflicts c.args.widening.value c.args.widening.max) c.in_err-question.field-0.0 c.in_err-question.ensures.some_refused)

pub returns-clause-possible : goal.returns-clause-possible
returns-clause-possible g c =
    let q = c.in_ok-question.question in
    some-question-given q.text.items (form_of q.formula) q.log c.in_ok-question.ensures.some_read c.tolerance_of_question.result
    (ToleranceOfLog c.args.widening.conflicts c.args.widening.value c.args.widening.max) c.tolerance_of_question.ensures.outcome
