use Rattle.std.proofs.Common.{◌∙◌, [], ◌∷◌, suc}
use Rattle.std.proofs.lemmas.Result.{err_from_is_err_and}
use Rattle.mt_model.specs.Form.{form_of}
use Rattle.skew_cli.specs.AuditOutcome.{AuditOfLog}
use Rattle.skew_commands.specs.Reads.{HoldsThird}
use Rattle.skew_commands.proofs.Holding.{next-held, question-held}
use Rattle.skew_commands.proofs.Opening.{question-opened, third-opened, two-of-more}
use Rattle.skew_commands.proofs.Possible.{some-third-given, third-refused}
use Rattle.skew_commands.proofs.Questions.{question-given, question-stopped}
use Rattle.skew_cli.proofs.audit.audit.Goals as goal

pub returns-in_err-question-clause-outcome : goal.returns-in_err-question-clause-outcome
returns-in_err-question-clause-outcome g c = λ tells.
    let p = err_from_is_err_and c.from_residual.result c.from_residual.ensures.1 in
    let held = g.S.Shelf.files c.args.shelf.now in
    rw (p.1, p.2) (question-stopped held c.args.formula.now c.args.log.now (AuditOfLog held c.args.conflicts c.args.report.now) c.in_err-question.field-0.0 (c.in_err-question.ensures.refused tells))

pub returns-clause-outcome : goal.returns-clause-outcome
returns-clause-outcome g c = λ tells.
    let held = g.S.Shelf.files c.args.shelf.now in
    let q = c.in_ok-question.question in
    let given = rw c.in_ok-question.ensures.files at (c.audit_of_question.ensures.outcome (c.in_ok-question.ensures.telling ∙ tells)) in
    question-given held c.args.formula.now c.args.log.now (AuditOfLog held c.args.conflicts c.args.report.now) q.text.items
    (form_of q.formula) q.log c.audit_of_question.result (c.in_ok-question.ensures.read tells) given

pub returns-in_err-question-clause-never : goal.returns-in_err-question-clause-never
returns-in_err-question-clause-never g c = λ steady tells holds failed.
    let p = err_from_is_err_and c.from_residual.result c.from_residual.ensures.1 in
    let held = g.S.Shelf.files c.args.shelf.now in
    c.in_err-question.ensures.never steady tells (question-held held c.args.formula.now c.args.log.now (HoldsThird held c.args.report.now) holds) (cc)

pub returns-clause-never : goal.returns-clause-never
returns-clause-never g c = λ steady tells holds failed.
    let held = g.S.Shelf.files c.args.shelf.now in
    let q = c.in_ok-question.question in
    let f = form_of q.formula in
    let next = next-held held c.args.formula.now c.args.log.now (HoldsThird held c.args.report.now) q.text.items f q.log (c.in_ok-question.ensures.read tells) holds in
    c.audit_of_question.ensures.never (c.in_ok-question.ensures.steady steady) (c.in_ok-question.ensures.telling ∙ tells) (rw c.in_ok-question.ensures.files next) failed

pub returns-in_err-question-clause-possible : goal.returns-in_err-question-clause-possible
returns-in_err-question-clause-possible g c =
    let p = err_from_is_err_and c.from_residual.result c.from_residual.ensures.1 in
    rw (p.1, p.2) (third-refused (λ files. AuditOfLog files c.args.conflicts) c.in_err-question.field-0.0 c.in_err-question.ensures.some_refused)

pub returns-clause-possible : goal.returns-clause-possible
returns-clause-possible g c =
    let q = c.in_ok-question.question in
    some-third-given q.text.items (form_of q.formula) q.log c.in_ok-question.ensures.some_read c.audit_of_question.result
    (λ files. AuditOfLog files c.args.conflicts) c.audit_of_question.ensures.possible

pub returns-in_err-question-clause-openings : goal.returns-in_err-question-clause-openings
returns-in_err-question-clause-openings g c =
    two-of-more c.args.formula.now c.args.log.now (c.args.report.now ∷ []) (g.S.Shelf.openings c.args.shelf.now) (g.S.Shelf.openings c.read_question.new.shelf) c.in_err-question.ensures.openings

pub returns-clause-openings : goal.returns-clause-openings
returns-clause-openings g c =
    let more = c.audit_of_question.ensures.openings in
    (suc (suc more.0), λ past told. more.1 (c.args.log.now ∷ c.args.formula.now ∷ past) (c.in_ok-question.ensures.both past told))

pub returns-in_err-question-clause-in_turn : goal.returns-in_err-question-clause-in_turn
returns-in_err-question-clause-in_turn g c = λ tells. question-opened _ _ _ _ _ c.in_err-question.ensures.openings (c.in_err-question.ensures.in_turn tells)

pub returns-clause-in_turn : goal.returns-clause-in_turn
returns-clause-in_turn g c = λ tells.
    let q = c.in_ok-question.question in
    third-opened _ _ _ q.text.items (form_of q.formula) q.log _ (g.S.Shelf.openings c.read_question.new.shelf) _ (c.in_ok-question.ensures.read tells) c.in_ok-question.ensures.both c.audit_of_question.ensures.in_turn
