use Rattle.log_read.proofs.Begun.{begun_host}
use Rattle.log_read.proofs.reading.Reading.add_host.Goals as goal

pub invariant_of-self-2 : goal.invariant_of-self-2
invariant_of-self-2 c =
    let entry = rw c.as_slice.ensures.items at c.in_ok-host.ensures.entry in
    rw c.in_ok-push.ensures.ok
    (begun_host c.args.columns.place
    (record { hosts = c.self.inside.hosts; rows = c.self.inside.rows; resyncs = c.self.inside.resyncs; latencies = c.self.inside.latencies; clocks = c.self.inside.clocks.items; readings = c.self.inside.readings; bounds = c.self.inside.bounds })
    c.in_ok-host.host c.args.columns.host.now c.args.columns.time.now c.args.columns.name.now c.self.invariant entry.0 entry.1)
