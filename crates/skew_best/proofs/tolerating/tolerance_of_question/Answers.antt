use Rattle.std.proofs.lemmas.Result.{err_from_is_err_and}
use Rattle.mt_model.specs.Form.{form_of}
use Rattle.least_skew.specs.Least.{wide}
use Rattle.skew_answers.specs.Texts.{line}
use Rattle.skew_commands.specs.Refusals.{status_of, text_of}
use Rattle.skew_commands.specs.Tests.{OnNodes}
use Rattle.skew_commands.proofs.Steps.{At, hosts-known, nodes-few, reason-weaker}
use Rattle.skew_best.specs.SizeTests.{OnSize, TellsLarge}
use Rattle.skew_best.specs.ToleranceOutcome.{ToleranceOfLog, Tolerated}
use Rattle.skew_best.proofs.SizeSteps.{large-refused, size-small}
use Rattle.skew_best.proofs.tolerating.tolerance_of_question.Goals as goal

pub returns-in_err-answer-clause-outcome : goal.returns-in_err-answer-clause-outcome
returns-in_err-answer-clause-outcome c =
    let p = err_from_is_err_and c.from_residual-in_err-answer.result c.from_residual-in_err-answer.ensures.1 in
    let q = c.args.question.now in
    let f = form_of q.formula in
    let widest = wide c.args.widening.max q.log in
    let tolerated = Tolerated c.args.widening.conflicts c.args.widening.value c.args.widening.max f q.log in
    rw (p.1, p.2) (reason-weaker c.in_err-answer.field-0.0 (TellsLarge f widest) (At (ToleranceOfLog c.args.widening.conflicts c.args.widening.value c.args.widening.max q.text.items f q.log))
    (λ r told. hosts-known q.text.items f q.log (OnNodes f (OnSize f widest tolerated)) (line (text_of r)) (status_of r) c.in_ok-known_hosts.ensures.known (large-refused f widest tolerated r told))
    c.in_err-answer.ensures.refused)

pub returns-clause-outcome : goal.returns-clause-outcome
returns-clause-outcome c =
    let q = c.args.question.now in
    let f = form_of q.formula in
    let widest = wide c.args.widening.max q.log in
    let reply = c.in_ok-tolerance_reply.field-0 in
    let tolerated : Tolerated c.args.widening.conflicts c.args.widening.value c.args.widening.max f q.log reply.text.items reply.status =
    record {
      answer = c.in_ok-answer.answer;
      right = c.in_ok-answer.ensures.right;
      tells = c.in_ok-answer.ensures.tells;
      inconsistent = c.in_ok-answer.ensures.inconsistent;
      written = c.in_ok-tolerance_reply.ensures.text;
      status = c.in_ok-tolerance_reply.ensures.status;
    } in
    let asked = c.in_ok-answer.ensures.asked in
    hosts-known q.text.items f q.log (OnNodes f (OnSize f widest (Tolerated c.args.widening.conflicts c.args.widening.value c.args.widening.max f q.log))) reply.text.items reply.status c.in_ok-known_hosts.ensures.known
    (nodes-few f (OnSize f widest (Tolerated c.args.widening.conflicts c.args.widening.value c.args.widening.max f q.log)) reply.text.items reply.status asked.few
    (size-small f widest (Tolerated c.args.widening.conflicts c.args.widening.value c.args.widening.max f q.log) reply.text.items reply.status asked.small tolerated))
