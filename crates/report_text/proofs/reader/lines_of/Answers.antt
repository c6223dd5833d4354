use Rattle.report_text.proofs.ReadBack.{lines-found, lines-go_on}
use Rattle.report_text.proofs.reader.lines_of.Goals as goal

pub unreachable-requires : goal.unreachable-requires
unreachable-requires c =
    let faulty = rw c.in-Err-Syntax.field-0-is at c.in-Err-Syntax.ensures.answer in
    lines-go_on c.args.text.now c.requires.text.0 c.requires.text.1 c.in-Err-Syntax.field-0-0 faulty

pub returns-in-Ok : goal.returns-in-Ok
returns-in-Ok c = lines-found c.args.text.now c.in-Ok.lines c.in-Ok.ensures.answer
