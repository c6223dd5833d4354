use Rattle.skew_best.proofs.SpansBest.{spans-asked, spans-best}
use Rattle.skew_best.proofs.laws.spans_are_best.Goals as goal

pub returns : goal.returns
returns c = record { best = spans-best c.texts_are_unambiguous.ensures; asked = spans-asked }
