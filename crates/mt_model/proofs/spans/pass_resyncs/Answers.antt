use Rattle.std.proofs.Common.{◌≡◌, ◌∙◌, ap, length, arith}
use Rattle.mt_model.proofs.HostSpans.{passed-all, passed-here, passing-next}
use Rattle.mt_model.proofs.spans.pass_resyncs.Goals as goal

pub loop-k-init : goal.loop-k-init
loop-k-init c = record { before = c.requires.before; host_spans = c.requires.host_spans }

pub returns-then-e-resync-clause-passed : goal.returns-then-e-resync-clause-passed
returns-then-e-resync-clause-passed c =
    let within = rw c.resyncs-resyncs.ensures.same at c.loop-k-test.true in
    let is = rw c.resyncs-resyncs.ensures.same at c.index-resyncs-k.is in
    passed-here c.args.log.now c.loop-k.host_spans c.loop-k.k c.args.e c.index-resyncs-k.result c.loop-k.invariant within is c.if-e-resync.true

pub returns-then-e-resync-clause-host_spans : goal.returns-then-e-resync-clause-host_spans
returns-then-e-resync-clause-host_spans c = c.loop-k.invariant.host_spans

pub loop-k-preserved : goal.loop-k-preserved
loop-k-preserved c =
    let within = rw c.resyncs-resyncs.ensures.same at c.loop-k-test.true in
    let is = rw c.resyncs-resyncs.ensures.same at c.index-resyncs-k.is in
    rw c.set_span.ensures (passing-next c.args.log.now c.loop-k.host_spans c.loop-k.k c.args.e c.index-resyncs-k.result c.resyncs-resyncs.ensures.valid c.loop-k.invariant within is c.if-e-resync.false)

pub returns-clause-passed : goal.returns-clause-passed
returns-clause-passed c =
    let end : c.loop-k.k ≡ length c.resyncs-resyncs.result.now = let most = c.loop-k-test.false in let all = ap length c.resyncs-resyncs.ensures.same in omega (arith, most, all, c.requires.from, c.loop-k.auto.k-end) in
    let all = ap length c.resyncs-resyncs.ensures.same in
    rw (← end) (passed-all c.args.log.now c.loop-k.host_spans c.loop-k.k c.args.e c.loop-k.invariant (end ∙ all))

pub returns-clause-host_spans : goal.returns-clause-host_spans
returns-clause-host_spans c =
    let end : c.loop-k.k ≡ length c.resyncs-resyncs.result.now = let most = c.loop-k-test.false in let all = ap length c.resyncs-resyncs.ensures.same in omega (arith, most, all, c.requires.from, c.loop-k.auto.k-end) in
    rw (← end) c.loop-k.invariant.host_spans
