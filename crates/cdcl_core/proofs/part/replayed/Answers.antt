-- The times are as near as the log admits.
use Rattle.std.proofs.Common.{length}
use Rattle.skew_bounds.specs.RowTimes.{times_of}
use Rattle.skew_bounds.proofs.Near.{times-near}
use Rattle.cdcl_core.proofs.part.replayed.Goals as goal

pub times_of-requires : goal.times_of-requires
times_of-requires c =
    let log = c.args.question.now.log in
    let valid = rw c.log.ensures.log at c.log_is_valid.ensures.valid in
    rw (rw c.log-2.ensures.log at c.rows.ensures.same)
    (record { some = c.requires.some; near = times-near log valid (times_of (length log.rows) c.args.numbers.now) c.requires.admissible })

pub truth_by-requires : goal.truth_by-requires
truth_by-requires c =
    let log = c.args.question.now.log in
    let valid = rw c.log.ensures.log at c.log_is_valid.ensures.valid in
    let same = rw (rw c.log-2.ensures.log at c.rows.ensures.same) at c.in_ok-times.ensures.times in
    rw (c.as_slice.ensures.items, same)
    (record { count = c.requires.admissible.count; range = times-near log valid (times_of (length log.rows) c.args.numbers.now) c.requires.admissible })
