use Rattle.report_text.proofs.CutShort.{cut-faulty}
use Rattle.report_text.proofs.laws.cut_texts_are_faulty.Goals as goal

pub returns : goal.returns
returns c = cut-faulty
