use Rattle.std.proofs.Common.{◌≡◌, ◌∙◌, ap, length, map, arith}
use Rattle.std.specs.List.{range_with_len}
use Rattle.mt_model.specs.Spans.{span_of}
use Rattle.mt_model.proofs.HostSpans.{spanning-begins, spanning-next, spans-within}
use Rattle.mt_model.proofs.spans.spans_from.Goals as goal

pub loop-e-init : goal.loop-e-init
loop-e-init c = spanning-begins c.args.log.now c.args.host_spans.now c.new-spans.result c.requires c.new-spans.ensures.items

pub pass_resyncs-passed-requires-clause-from : goal.pass_resyncs-passed-requires-clause-from
pass_resyncs-passed-requires-clause-from c = c.loop-e.invariant.within

pub pass_resyncs-passed-requires-clause-before : goal.pass_resyncs-passed-requires-clause-before
pass_resyncs-passed-requires-clause-before c = c.loop-e.invariant.before

pub pass_resyncs-passed-requires-clause-host_spans : goal.pass_resyncs-passed-requires-clause-host_spans
pass_resyncs-passed-requires-clause-host_spans c = c.loop-e.invariant.host_spans

pub loop-e-preserved : goal.loop-e-preserved
loop-e-preserved c =
    spanning-next c.args.log.now c.pass_resyncs-passed.new.host_spans c.loop-e.spans c.push.new.self c.pass_resyncs-passed.result c.loop-e.e
    c.host_at.result _ c.rows-e-end.ensures.valid c.pass_resyncs-passed.ensures.passed c.pass_resyncs-passed.ensures.host_spans
    c.loop-e.invariant.spans c.host_at.ensures.host c.host_at.ensures.within c.in_ok-push.ensures.ok

pub returns-clause-spans : goal.returns-clause-spans
returns-clause-spans c =
    let end : c.loop-e.e ≡ length c.args.log.now.rows = let most = c.loop-e-test.false in let all = ap length c.rows-e-end.ensures.same in omega (arith, most, all, c.loop-e.auto.e-end) in
    c.loop-e.invariant.spans ∙ ap (λ n. map (span_of c.args.log.now) (range_with_len 0 n)) end

pub returns-clause-ranges : goal.returns-clause-ranges
returns-clause-ranges c =
    let end : c.loop-e.e ≡ length c.args.log.now.rows = let most = c.loop-e-test.false in let all = ap length c.rows-e-end.ensures.same in omega (arith, most, all, c.loop-e.auto.e-end) in
    spans-within c.args.log.now c.loop-e.spans c.rows-e-end.ensures.valid (c.loop-e.invariant.spans ∙ ap (λ n. map (span_of c.args.log.now) (range_with_len 0 n)) end)
