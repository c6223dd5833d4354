use Rattle.log_read.proofs.Begun.{begun_resync}
use Rattle.log_read.proofs.reading.Reading.add_resync.Goals as goal

pub invariant_of-self-2 : goal.invariant_of-self-2
invariant_of-self-2 c =
    let entry = rw (c.as_slice-hosts.ensures.items, c.len.ensures.count) at c.in_ok-resync.ensures.entry in
    rw c.in_ok-push.ensures.ok
    (begun_resync
    (record { hosts = c.self.inside.hosts; rows = c.self.inside.rows; resyncs = c.self.inside.resyncs; latencies = c.self.inside.latencies; clocks = c.self.inside.clocks.items; readings = c.self.inside.readings; bounds = c.self.inside.bounds })
    c.in_ok-resync.resync c.args.columns.host.now c.args.columns.time.now c.args.columns.name.now c.self.invariant entry.1)
