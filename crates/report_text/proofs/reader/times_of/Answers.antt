use Rattle.std.specs.Fmt.{signed_decimal}
use Rattle.mt_model.specs.declared.limits.TheConstants.{MAX_TIME}
use Rattle.mt_model.specs.Log.{IsWithin}
use Rattle.report_text.proofs.ItemLists.{items-found, items-go_on}
use Rattle.report_text.proofs.LineTexts.{times-spelled}
use Rattle.report_text.proofs.reader.times_of.Goals as goal

pub unreachable-requires : goal.unreachable-requires
unreachable-requires c =
    let stopped = rw c.in-Err-Syntax.field-0-is at c.in-Err-Syntax.ensures in
    items-go_on (IsWithin MAX_TIME) signed_decimal times-spelled c.args.count c.in-Err-Syntax.field-0-0 c.args.text.now c.requires stopped

pub returns-in-Ok : goal.returns-in-Ok
returns-in-Ok c = record { times = items-found (IsWithin MAX_TIME) signed_decimal times-spelled c.args.count c.args.text.now c.read_times.new.times c.in-Ok.field-0.now c.in-Ok.ensures }
