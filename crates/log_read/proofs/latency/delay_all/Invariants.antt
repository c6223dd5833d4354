use Rattle.std.proofs.Common.{◌≡◌, ◌++◌, drop, map, take}
use Rattle.log_read.specs.Records.{delayed}
use Rattle.log_read.proofs.latency.delay_all.Given as goal

abbrev pub invariant-loop-host : goal.invariant-loop-host
invariant-loop-host l = l.hosts ≡ map (delayed l.latencies) (take l.host-index l.initial.hosts) ++ drop l.host-index l.initial.hosts
