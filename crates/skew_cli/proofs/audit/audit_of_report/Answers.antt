use Rattle.mt_model.specs.Form.{form_of}
use Rattle.skew_cli.proofs.Judging.{audit-accepted, audit-large, audit-refused}
use Rattle.skew_cli.proofs.audit.audit_of_report.Goals as goal

pub returns-in_ok-accepted-in-Ok-Accepted-clause-outcome : goal.returns-in_ok-accepted-in-Ok-Accepted-clause-outcome
returns-in_ok-accepted-in-Ok-Accepted-clause-outcome c = λ r out spelled.
    let q = c.args.question.now in
    let audited = c.in-Ok-Accepted.ensures in
    let is = c.in-Ok-Accepted.field-0-is in
    let made = c.in_ok-accepted-in-Ok-Accepted in
    rw made.ensures.zero
    (audit-accepted q.log (form_of q.formula) c.args.conflicts r audited.judged made.field-0.text.items ((audited.accepted r out spelled).0 is) (audited.claims r out spelled is) made.ensures.text)

pub returns-in-Ok-Refused-clause-outcome : goal.returns-in-Ok-Refused-clause-outcome
returns-in-Ok-Refused-clause-outcome c = λ r out spelled.
    let q = c.args.question.now in
    let audited = c.in-Ok-Refused.ensures in
    let part = c.in-Ok-Refused.part in
    let number = c.in-Ok-Refused.line in
    rw c.refused.ensures (audit-refused q.log (form_of q.formula) c.args.conflicts r audited.judged part number ((audited.refused r out spelled part number).0 c.in-Ok-Refused.field-0-is))

pub returns-in-Err-TooLarge-clause-outcome : goal.returns-in-Err-TooLarge-clause-outcome
returns-in-Err-TooLarge-clause-outcome c = λ r out spelled.
    let q = c.args.question.now in
    let fault = rw c.in-Err-TooLarge.field-0-is at c.in-Err-TooLarge.ensures.fault in
    rw c.in-Err-TooLarge.field-0-is (audit-large q.log (form_of q.formula) c.args.conflicts r c.in-Err-TooLarge.size fault)
