use Rattle.report_text.proofs.Stages.{section-none, section-outlined}
use Rattle.report_text.proofs.outlining.outline_false_section.Goals as goal

pub returns-in_default : goal.returns-in_default
returns-in_default c = section-none c.args.events c.args.bytes.now c.in_default.ensures

pub returns : goal.returns
returns c = section-outlined c.args.events c.args.bytes.now c.in-Some.rest.now c.in-Some.kind c.outline_entries.result c.in-Some.ensures c.outline_entries.ensures
