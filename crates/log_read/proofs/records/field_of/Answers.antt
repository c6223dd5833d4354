use Rattle.std.proofs.Common.{sym}
use Rattle.csv.specs.Records.{fields_of}
use Rattle.log_read.proofs.Copies.{field_at-within}
use Rattle.log_read.proofs.records.field_of.Goals as goal

pub unreachable-requires : goal.unreachable-requires
unreachable-requires c = field_at-within (fields_of c.args.row.now) c.args.i c.requires (sym c.in-None.ensures.value)
