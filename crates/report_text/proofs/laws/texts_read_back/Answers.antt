use Rattle.report_text.proofs.Unambiguous.{read-back}
use Rattle.report_text.proofs.laws.texts_read_back.Goals as goal

pub returns : goal.returns
returns c = read-back
