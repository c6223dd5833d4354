use Rattle.report_text.proofs.HandedParts.{line-passed}
use Rattle.report_text.proofs.front.after_line.Goals as goal

pub returns : goal.returns
returns c = line-passed c.args.bytes.now c.pass_line.result c.pass_line.ensures.front
