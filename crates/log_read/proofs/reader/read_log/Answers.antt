use Rattle.std.proofs.Common.{arith}
use Rattle.log_read.proofs.AllRecords.{all-records, length-records}
use Rattle.csv.specs.Reading.{strip_bom}
use Rattle.log_read.proofs.PlainLogs.{answer-plain}
use Rattle.log_read.proofs.reader.read_log.Goals as goal

pub log_in-requires : goal.log_in-requires
log_in-requires c =
    let are = all-records (strip_bom c.args.bytes.now) c.in_ok-records.records c.in_ok-records.ensures.records in
    let few = rw are at (length-records c.args.bytes.now) in
    rw c.as_slice.ensures.items (omega (arith, few, c.requires))

pub returns-clause-answer : goal.returns-clause-answer
returns-clause-answer c =
    let are = all-records (strip_bom c.args.bytes.now) c.in_ok-records.records c.in_ok-records.ensures.records in
    let answer = rw c.as_slice.ensures.items at c.log_in.ensures in
    rw are answer

pub returns-clause-plain : goal.returns-clause-plain
returns-clause-plain c = answer-plain c.as_slice.result.now c.log_in.result c.log_in.ensures
