use Rattle.report_text.proofs.Unambiguous.{tell-apart}
use Rattle.report_text.proofs.laws.texts_tell_apart.Goals as goal

pub returns : goal.returns
returns c = tell-apart
