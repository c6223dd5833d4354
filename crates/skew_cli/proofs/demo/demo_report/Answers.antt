use Rattle.std.proofs.lemmas.Result.{err_from_is_err_and}
use Rattle.mt_model.specs.Form.{form_of}
use Rattle.skew_cli.proofs.DemosExact.{claims-made, made-known, never-refused, right-made}
use Rattle.skew_cli.proofs.demo.demo_report.Goals as goal

pub report_on-requires-clause-known : goal.report_on-requires-clause-known
report_on-requires-clause-known c = made-known c.args.seed c.in_ok-log.log (form_of c.in_ok-formula.formula) c.in_ok-log.ensures.log c.in_ok-formula.ensures.formula

pub returns-clause-right : goal.returns-clause-right
returns-clause-right c = right-made c.args.seed c.in_ok-log.log (form_of c.in_ok-formula.formula) c.in_ok-log.ensures.log c.in_ok-formula.ensures.formula c.report_on.result c.report_on.ensures.right

pub returns-clause-claims : goal.returns-clause-claims
returns-clause-claims c =
    claims-made c.args.seed c.in_ok-log.log (form_of c.in_ok-formula.formula) c.in_ok-log.ensures.log c.in_ok-formula.ensures.formula c.report_on.result c.report_on.ensures.claims

-- no test refuses the demo
pub returns-clause-refused : goal.returns-clause-refused
returns-clause-refused c =
    never-refused c.args.seed c.in_ok-log.log (form_of c.in_ok-formula.formula) c.in_ok-log.ensures.log c.in_ok-formula.ensures.formula c.report_on.result c.report_on.ensures.refused

pub returns-in_err-formula-clause-right : goal.returns-in_err-formula-clause-right
returns-in_err-formula-clause-right c =
    let p = err_from_is_err_and c.from_residual-in_err-formula.result c.from_residual-in_err-formula.ensures.1 in
    rw p.1 tt
