use Rattle.log_read.proofs.Begun.{begun_row}
use Rattle.log_read.proofs.reading.Reading.add_row.Goals as goal

pub invariant_of-self-2 : goal.invariant_of-self-2
invariant_of-self-2 c =
    let entry = rw (c.as_slice-hosts.ensures.items, c.as_slice.ensures.items) at c.in_ok-row.ensures.entry in
    rw c.in_ok-push.ensures.ok
    (begun_row c.args.columns.place
    (record { hosts = c.self.inside.hosts; rows = c.self.inside.rows; resyncs = c.self.inside.resyncs; latencies = c.self.inside.latencies; clocks = c.self.inside.clocks.items; readings = c.self.inside.readings; bounds = c.self.inside.bounds })
    c.in_ok-row.row c.args.kind c.args.columns.host.now c.args.columns.time.now c.args.columns.name.now c.self.invariant entry.0 entry.1)
