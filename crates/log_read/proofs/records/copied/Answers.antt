use Rattle.std.proofs.Common.{sym, add-one}
use Rattle.csv.specs.Records.{fields_of}
use Rattle.log_read.proofs.Copies.{take-field}
use Rattle.log_read.proofs.records.copied.Goals as goal

pub loop-i-preserved : goal.loop-i-preserved
loop-i-preserved c =
    let more = take-field (fields_of c.args.row.now) c.loop-i.i c.field_of.result.now c.field_of.ensures in
    rw (c.in_ok-push.ensures.ok, c.loop-i.invariant, add-one) (sym more)
