use Rattle.std.proofs.Common.{◌≡◌, ◌<◌, length}
use Rattle.std.proofs.lemmas.Result.{err_from_is_err_and}
use Rattle.mt_model.specs.Form.{form_of}
use Rattle.formula_arena.specs.Nodes.{nodes_of}
use Rattle.formula_arena.specs.declared.arena.TheConstants.{MAX_NODES}
use Rattle.skew_answers.specs.Texts.{line}
use Rattle.skew_commands.specs.declared.refusal.Refusal.TheVariants as refusal
use Rattle.skew_commands.specs.Refusals.{status_of, text_of}
use Rattle.skew_commands.specs.Tests.{OnNodes}
use Rattle.skew_commands.proofs.Steps.{At, hosts-known, nodes-few, nodes-refused, reason-weaker}
use Rattle.skew_best.specs.EventTests.{OnEvents, TellsEvent}
use Rattle.skew_best.specs.SizeTests.{OnSize, TellsLarge}
use Rattle.skew_best.specs.SpanOutcome.{SpanOfLog, Spanned}
use Rattle.skew_best.proofs.EventSteps.{events-known, events-refused, large-after_events}
use Rattle.skew_best.proofs.SizeSteps.{size-small}
use Rattle.skew_best.proofs.spanning.span_of_question.Goals as goal

pub returns-in_err-few_nodes-clause-outcome : goal.returns-in_err-few_nodes-clause-outcome
returns-in_err-few_nodes-clause-outcome c =
    let p = err_from_is_err_and c.from_residual-in_err-few_nodes.result c.from_residual-in_err-few_nodes.ensures.1 in
    let q = c.args.question.now in
    let f = form_of q.formula in
    let after = OnEvents c.args.distance.from c.args.distance.to q.log (OnSize f q.log (Spanned c.args.distance.conflicts c.args.distance.value c.args.distance.from c.args.distance.to f q.log)) in
    rw (p.1, p.2)
    (reason-weaker c.in_err-few_nodes.field-0.0 (λ r. (r ≡ refusal.Nodes) × (MAX_NODES < length (nodes_of f)))
    (At (SpanOfLog c.args.distance.conflicts c.args.distance.value c.args.distance.from c.args.distance.to q.text.items f q.log))
    (λ r why. hosts-known q.text.items f q.log (OnNodes f after) (line (text_of r)) (status_of r) c.in_ok-known_hosts.ensures.known (nodes-refused f after r why))
    c.in_err-few_nodes.ensures.refused)

pub returns-in_err-known_events-clause-outcome : goal.returns-in_err-known_events-clause-outcome
returns-in_err-known_events-clause-outcome c =
    let p = err_from_is_err_and c.from_residual-in_err-known_events.result c.from_residual-in_err-known_events.ensures.1 in
    let q = c.args.question.now in
    let f = form_of q.formula in
    let next = OnSize f q.log (Spanned c.args.distance.conflicts c.args.distance.value c.args.distance.from c.args.distance.to f q.log) in
    let after = OnEvents c.args.distance.from c.args.distance.to q.log next in
    rw (p.1, p.2) (reason-weaker c.in_err-known_events.field-0.0 (TellsEvent c.args.distance.from c.args.distance.to q.log) (At (SpanOfLog c.args.distance.conflicts c.args.distance.value c.args.distance.from c.args.distance.to q.text.items f q.log))
    (λ r told. hosts-known q.text.items f q.log (OnNodes f after) (line (text_of r)) (status_of r) c.in_ok-known_hosts.ensures.known
    (nodes-few f after (line (text_of r)) (status_of r) c.in_ok-few_nodes.ensures.few (events-refused c.args.distance.from c.args.distance.to q.log next r told)))
    c.in_err-known_events.ensures.refused)

pub returns-in_err-answer-clause-outcome : goal.returns-in_err-answer-clause-outcome
returns-in_err-answer-clause-outcome c =
    let p = err_from_is_err_and c.from_residual-in_err-answer.result c.from_residual-in_err-answer.ensures.1 in
    let q = c.args.question.now in
    let f = form_of q.formula in
    let spanned = Spanned c.args.distance.conflicts c.args.distance.value c.args.distance.from c.args.distance.to f q.log in
    let after = OnEvents c.args.distance.from c.args.distance.to q.log (OnSize f q.log spanned) in
    rw (p.1, p.2) (reason-weaker c.in_err-answer.field-0.0 (TellsLarge f q.log) (At (SpanOfLog c.args.distance.conflicts c.args.distance.value c.args.distance.from c.args.distance.to q.text.items f q.log))
    (λ r told. hosts-known q.text.items f q.log (OnNodes f after) (line (text_of r)) (status_of r) c.in_ok-known_hosts.ensures.known
    (nodes-few f after (line (text_of r)) (status_of r) c.in_ok-few_nodes.ensures.few
    (large-after_events c.args.distance.from c.args.distance.to f q.log spanned c.in_ok-few_nodes.ensures.few c.in_ok-known_events.ensures.known r told)))
    c.in_err-answer.ensures.refused)

pub returns-clause-outcome : goal.returns-clause-outcome
returns-clause-outcome c =
    let q = c.args.question.now in
    let f = form_of q.formula in
    let reply = c.in_ok-span_reply.field-0 in
    let spanned = Spanned c.args.distance.conflicts c.args.distance.value c.args.distance.from c.args.distance.to f q.log in
    let after = OnEvents c.args.distance.from c.args.distance.to q.log (OnSize f q.log spanned) in
    let answered : spanned reply.text.items reply.status =
    record {
      answer = c.in_ok-answer.answer;
      right = c.in_ok-answer.ensures.right;
      tells = c.in_ok-answer.ensures.tells;
      inconsistent = c.in_ok-answer.ensures.inconsistent;
      written = c.in_ok-span_reply.ensures.text;
      status = c.in_ok-span_reply.ensures.status;
    } in
    let judged = c.in_ok-answer.ensures.judged in
    hosts-known q.text.items f q.log (OnNodes f after) reply.text.items reply.status c.in_ok-known_hosts.ensures.known
    (nodes-few f after reply.text.items reply.status c.in_ok-few_nodes.ensures.few
    (events-known c.args.distance.from c.args.distance.to q.log (OnSize f q.log spanned) reply.text.items reply.status c.in_ok-known_events.ensures.known
    (size-small f q.log spanned reply.text.items reply.status judged.small answered)))
