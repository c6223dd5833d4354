use Rattle.std.proofs.lemmas.Result.{err_from_is_err_and}
use Rattle.mt_model.specs.Form.{form_of}
use Rattle.skew_answers.specs.Texts.{line}
use Rattle.skew_cli.specs.CheckOutcome.{CheckOfLog, Checked}
use Rattle.skew_commands.specs.Refusals.{status_of, text_of}
use Rattle.skew_best.specs.SizeTests.{TellsLarge, OnSize}
use Rattle.skew_commands.specs.Tests.{OnNodes}
use Rattle.skew_best.proofs.SizeSteps.{large-refused, size-small}
use Rattle.skew_commands.proofs.Steps.{At, hosts-known, nodes-few, reason-weaker}
use Rattle.skew_cli.proofs.check.check_of_question.Goals as goal

pub returns-in_err-report-clause-outcome : goal.returns-in_err-report-clause-outcome
returns-in_err-report-clause-outcome c =
    let p = err_from_is_err_and c.from_residual-in_err-report.result c.from_residual-in_err-report.ensures.1 in
    let q = c.args.question.now in
    let f = form_of q.formula in
    rw (p.1, p.2) (reason-weaker c.in_err-report.field-0.0 (TellsLarge f q.log) (At (CheckOfLog c.args.conflicts q.text.items f q.log))
    (λ r told. hosts-known q.text.items f q.log (OnNodes f (OnSize f q.log (Checked c.args.conflicts f q.log))) (line (text_of r))
    (status_of r) c.in_ok-known_hosts.ensures.known (large-refused f q.log (Checked c.args.conflicts f q.log) r told))
    c.in_err-report.ensures.refused)

pub returns-clause-outcome : goal.returns-clause-outcome
returns-clause-outcome c =
    let q = c.args.question.now in
    let f = form_of q.formula in
    let reply = c.in_ok-report_reply.field-0 in
    let checked : Checked c.args.conflicts f q.log reply.text.items reply.status =
    record {
      report = c.in_ok-report.report;
      right = c.in_ok-report.ensures.right;
      claims = c.in_ok-report.ensures.claims;
      once = c.in_ok-report.ensures.once;
      few = c.in_ok-report.ensures.few;
      written = c.in_ok-report_reply.ensures.text;
      status = c.in_ok-report_reply.ensures.status;
    } in
    let judged = c.in_ok-report.ensures.judged in
    hosts-known q.text.items f q.log (OnNodes f (OnSize f q.log (Checked c.args.conflicts f q.log))) reply.text.items reply.status c.in_ok-known_hosts.ensures.known
    (nodes-few f (OnSize f q.log (Checked c.args.conflicts f q.log)) reply.text.items reply.status judged.nodes.few
    (size-small f q.log (Checked c.args.conflicts f q.log) reply.text.items reply.status judged.small checked))
