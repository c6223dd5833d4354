use Rattle.report_text.proofs.Fronts.{time-line}
use Rattle.report_text.proofs.front.time_of.Goals as goal

pub returns : goal.returns
returns c = time-line c.args.line.now c.signed_number.result c.signed_number.ensures.value
