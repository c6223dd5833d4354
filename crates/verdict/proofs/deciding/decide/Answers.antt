use Rattle.std.proofs.lemmas.Result.{IfOk-weaker as if_ok_more}
use Rattle.mt_model.specs.Form.{form_of}
use Rattle.verdict.proofs.deciding.decide.Goals as goal

pub returns-clause-claims : goal.returns-clause-claims
returns-clause-claims c =
    let f = form_of c.args.f.now in
    if_ok_more c.report_on.result _ _ (λ r right. c.right_reports_are_true.ensures.claims c.args.log.now f c.args.budget r c.log_is_valid.ensures.valid right)
    (rw (c.in_ok-nodes.ensures.formula, c.new.ensures.conflicts) at c.report_on.ensures.right)
