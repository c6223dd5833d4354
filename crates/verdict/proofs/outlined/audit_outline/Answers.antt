use Rattle.std.proofs.lemmas.Result.{IfOk-weaker as if_ok_more}
use Rattle.mt_model.specs.Form.{form_of}
use Rattle.verdict.proofs.Audits.{accepted_iff, refused_iff}
use Rattle.verdict.proofs.outlined.audit_outline.Goals as goal

pub returns-clause-accepted : goal.returns-clause-accepted
returns-clause-accepted c =
    let f = form_of c.args.f.now in
    if_ok_more c.audit_on.result _ _
    (λ a audit r out spelled. accepted_iff c.args.log.now f c.args.budget c.audits_are_exact.ensures.exact r a (audit r out spelled)) (rw c.in_ok-nodes.ensures.formula at c.audit_on.ensures.audit)

pub returns-clause-refused : goal.returns-clause-refused
returns-clause-refused c =
    let f = form_of c.args.f.now in
    if_ok_more c.audit_on.result _ _
    (λ a audit r out spelled part line. refused_iff c.args.log.now f c.args.budget c.audits_are_exact.ensures.exact r a (audit r out spelled) part line)
    (rw c.in_ok-nodes.ensures.formula at c.audit_on.ensures.audit)

pub returns-clause-claims : goal.returns-clause-claims
returns-clause-claims c =
    let f = form_of c.args.f.now in
    if_ok_more c.audit_on.result _ _
    (λ a audit r out spelled same. c.accepted_reports_are_true.ensures.claims c.args.log.now f c.args.budget r c.log_is_valid.ensures.valid
    ((accepted_iff c.args.log.now f c.args.budget c.audits_are_exact.ensures.exact r a (audit r out spelled)).0 same))
    (rw c.in_ok-nodes.ensures.formula at c.audit_on.ensures.audit)

pub returns-clause-right : goal.returns-clause-right
returns-clause-right c =
    let f = form_of c.args.f.now in
    if_ok_more c.audit_on.result _ _
    (λ a audit r out right. (accepted_iff c.args.log.now f c.args.budget c.audits_are_exact.ensures.exact r a (audit r out right.spelled)).1
    (c.right_reports_are_accepted.ensures.accepted c.args.log.now f c.args.budget r right))
    (rw c.in_ok-nodes.ensures.formula at c.audit_on.ensures.audit)
