use Rattle.log_read.proofs.Begun.{finished}
use Rattle.log_read.proofs.reading.Reading.finish.Goals as goal

pub unreachable-requires : goal.unreachable-requires
unreachable-requires c =
    let some = rw (← c.self.view_is) at c.requires.some in
    let sent = rw (← c.self.view_is) at c.requires.sent in
    let placed = rw (← c.self.view_is) at c.requires.placed in
    let log = finished (record { hosts = c.self.inside.hosts; rows = c.self.inside.rows; resyncs = c.self.inside.resyncs; latencies = c.self.inside.latencies; clocks = c.self.inside.clocks.items; readings = c.self.inside.readings; bounds = c.self.inside.bounds }) c.self.invariant some sent placed in
    let no_log = c.in-None.ensures.valid.1 (rw (c.delayed-hosts.ensures.hosts, c.as_slice.ensures.items, c.from_vec-clocks.ensures.items) log) in
    absurd (cc)
