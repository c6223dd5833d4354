use Rattle.std.proofs.Common.{map}
use Rattle.std.specs.Prelude.{filter}
use Rattle.log_read.specs.LogText.{has_latency, latency_fields}
use Rattle.log_read.proofs.PushedLines.{IsPushedUpTo}
use Rattle.log_read.proofs.writer.push_latencies.Given as goal

abbrev pub invariant-loop-host : goal.invariant-loop-host
invariant-loop-host l = IsPushedUpTo (λ i hosts. map latency_fields (filter has_latency hosts)) l.hosts l.fn.text.items l.text.items l.host-index
