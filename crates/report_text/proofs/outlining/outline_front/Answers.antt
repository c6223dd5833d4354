use Rattle.report_text.proofs.Stages.{mark-none, whole-outlined}
use Rattle.report_text.proofs.outlining.outline_front.Goals as goal

pub returns-in_default : goal.returns-in_default
returns-in_default c = mark-none c.args.bytes.now c.in_default.ensures

pub returns : goal.returns
returns c = whole-outlined c.args.bytes.now c.in-Some.rest.now c.outline_marked.result c.in-Some.ensures c.outline_marked.ensures
