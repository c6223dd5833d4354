use Rattle.report_text.proofs.HandedParts.{bound-handed}
use Rattle.report_text.proofs.bounds.read_bound.Goals as goal

pub returns : goal.returns
returns c = record { bound = bound-handed c.args.bytes.now c.next_bound.result c.next_bound.ensures }
