use Rattle.mt_model.specs.Texts.{step_text}
use Rattle.report_text.specs.Spelled.{IsSpelledBound}
use Rattle.report_text.proofs.ItemLists.{items-found, items-go_on}
use Rattle.report_text.proofs.LineTexts.{bounds-spelled}
use Rattle.report_text.proofs.reader.steps_of.Goals as goal

pub unreachable-requires : goal.unreachable-requires
unreachable-requires c =
    let stopped = rw c.in-Err-Syntax.field-0-is at c.in-Err-Syntax.ensures in
    items-go_on IsSpelledBound step_text bounds-spelled c.args.count c.in-Err-Syntax.field-0-0 c.args.text.now c.requires stopped

pub returns-in-Ok : goal.returns-in-Ok
returns-in-Ok c = record { steps = items-found IsSpelledBound step_text bounds-spelled c.args.count c.args.text.now c.read_bounds.new.steps c.in-Ok.field-0.now c.in-Ok.ensures }
