use Rattle.mt_model.proofs.HostSpans.{IsSpanning}
use Rattle.mt_model.proofs.spans.spans_from.Given as goal

abbrev pub invariant-loop-e : goal.invariant-loop-e
invariant-loop-e l = IsSpanning l.log l.host_spans l.spans l.passed l.e
