use Rattle.std.proofs.Common.{◌≡◌, map, take}
use Rattle.mt_model.specs.Spans.{declared_span}
use Rattle.mt_model.proofs.spans.declared_spans.Given as goal

abbrev pub invariant-loop-host : goal.invariant-loop-host
invariant-loop-host l = l.host_spans.items ≡ map declared_span (take l.host-index l.hosts)
