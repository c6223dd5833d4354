use Rattle.mt_model.proofs.HostSpans.{IsPassing}
use Rattle.mt_model.proofs.spans.pass_resyncs.Given as goal

abbrev pub invariant-loop-k : goal.invariant-loop-k
invariant-loop-k l = IsPassing l.log l.host_spans l.k l.e
