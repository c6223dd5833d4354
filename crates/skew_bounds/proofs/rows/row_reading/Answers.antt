use Rattle.std.proofs.Common.{arith}
use Rattle.skew_bounds.proofs.RowReadings.{has-error, reading-is, readings-count}
use Rattle.skew_bounds.proofs.rows.row_reading.Goals as goal

pub bounds-readings-e : goal.bounds-readings-e
bounds-readings-e c = let count = readings-count c.args.log.now c.args.readings.now c.requires.readings in omega (arith, count, c.requires.row)

pub returns-clause-reading : goal.returns-clause-reading
returns-clause-reading c = reading-is c.args.log.now c.args.readings.now c.requires.readings c.args.e c.index-readings-e.result c.requires.row c.index-readings-e.is

pub returns-clause-error : goal.returns-clause-error
returns-clause-error c =
    has-error c.args.log.now c.args.readings.now c.requires.readings c.log_is_valid.ensures.valid c.args.e c.index-readings-e.result
    (reading-is c.args.log.now c.args.readings.now c.requires.readings c.args.e c.index-readings-e.result c.requires.row c.index-readings-e.is)
