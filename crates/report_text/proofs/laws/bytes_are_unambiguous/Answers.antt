use Rattle.report_text.proofs.Unambiguous.{one-reading}
use Rattle.report_text.proofs.laws.bytes_are_unambiguous.Goals as goal

pub returns : goal.returns
returns c = one-reading
