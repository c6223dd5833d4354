use Rattle.std.proofs.Common.{arith, length}
use Rattle.skew_bounds.specs.RowTimes.{times_of}
use Rattle.skew_bounds.proofs.Near.{times-near}
use Rattle.skew_bounds.proofs.Settled.{conflict-of, places-within, system-of, timing-of}
use Rattle.skew_bounds.proofs.consistency.settle_by.Goals as goal

pub solve-requires : goal.solve-requires
solve-requires c =
    let system = system-of c.args.log.now c.args.system.now.bounds c.args.system.now.edges c.log_is_valid.ensures.valid c.requires.system.bounds c.requires.system.edges c.requires.system.within in
    rw (c.node_count.ensures.count, c.as_slice.ensures.items) system

pub times_of-requires : goal.times_of-requires
times_of-requires c =
    let found = rw (c.node_count.ensures.count, c.as_slice.ensures.items, c.in-Potential.is) at c.in_ok-outcome.ensures.found in
    let admissible =
    timing-of c.bounds_are_admissible.ensures c.args.log.now c.log_is_valid.ensures.valid c.args.system.now.bounds c.args.system.now.edges c.in-Potential.numbers
    c.requires.system.bounds c.requires.system.edges c.requires.system.within found in
    rw (c.rows.ensures.same, c.as_slice-in-Potential.ensures.items) (record {
      some = let count = found.count in omega (arith, count);
      near = times-near c.args.log.now c.log_is_valid.ensures.valid (times_of (length c.args.log.now.rows) c.in-Potential.numbers) admissible;
    })

pub returns-in_ok-times-in-Potential : goal.returns-in_ok-times-in-Potential
returns-in_ok-times-in-Potential c =
    let found = rw (c.node_count.ensures.count, c.as_slice.ensures.items, c.in-Potential.is) at c.in_ok-outcome.ensures.found in
    let admissible =
    timing-of c.bounds_are_admissible.ensures c.args.log.now c.log_is_valid.ensures.valid c.args.system.now.bounds c.args.system.now.edges c.in-Potential.numbers
    c.requires.system.bounds c.requires.system.edges c.requires.system.within found in
    let times = rw (c.rows.ensures.same, c.as_slice-in-Potential.ensures.items) at c.in_ok-times-in-Potential.ensures.times in
    record { answer = rw times admissible }

pub steps_of-requires : goal.steps_of-requires
steps_of-requires c =
    let cycle = rw (c.as_slice.ensures.items, c.in-Cycle.is) at c.in_ok-outcome.ensures.cycle in
    rw (c.as_slice-in-Cycle.ensures.items, c.as_slice-in-Cycle-2.ensures.items)
    (places-within c.args.log.now c.args.system.now.bounds c.args.system.now.edges c.in-Cycle.places c.requires.system.edges
    cycle.closed)

pub returns-in_ok-steps-in-Cycle : goal.returns-in_ok-steps-in-Cycle
returns-in_ok-steps-in-Cycle c =
    let cycle = rw (c.as_slice.ensures.items, c.in-Cycle.is) at c.in_ok-outcome.ensures.cycle in
    let once = rw (c.as_slice.ensures.items, c.in-Cycle.is) at c.in_ok-outcome.ensures.once in
    let conflict = conflict-of c.args.log.now c.args.system.now.bounds c.args.system.now.edges c.in-Cycle.places c.requires.system.edges cycle once in
    let steps = rw (c.as_slice-in-Cycle.ensures.items, c.as_slice-in-Cycle-2.ensures.items) at c.in_ok-steps-in-Cycle.ensures in
    record { answer = rw steps conflict }
