use Rattle.report_text.proofs.ReadBack.{outlined-refuted, outlined-times}
use Rattle.report_text.proofs.reader.section_of.Goals as goal

pub times_of-requires : goal.times_of-requires
times_of-requires c = outlined-times c.args.events c.args.outline c.requires.some.0 c.requires.some.1 c.requires.some.2 c.in-Witness.is

pub lines_of-requires-clause-text : goal.lines_of-requires-clause-text
lines_of-requires-clause-text c = outlined-refuted c.args.events c.args.outline c.requires.some.0 c.requires.some.1 c.requires.some.2 c.in-Refuted.field-0 c.in-Refuted.is
