use Rattle.std.proofs.Common.{arith}
use Rattle.std.proofs.lemmas.List.Edits.{map_over_more}
use Rattle.log_read.specs.Records.{delayed}
use Rattle.log_read.proofs.latency.delay_all.Goals as goal

pub loop-host-preserved : goal.loop-host-preserved
loop-host-preserved c =
    let same = c.loop-host.auto.hosts in
    let more = map_over_more (delayed c.args.latencies.now) c.args.hosts.now c.loop-host.hosts c.loop-host.host-index c.host-item.result (omega arith) c.loop-host.invariant c.host-item.is in
    let is = c.host-item.is in
    rw (c.delay.ensures, ← is) more
