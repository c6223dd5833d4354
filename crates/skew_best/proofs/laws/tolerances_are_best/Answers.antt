use Rattle.skew_best.proofs.TolerancesBest.{tolerances-asked, tolerances-best}
use Rattle.skew_best.proofs.laws.tolerances_are_best.Goals as goal

pub returns : goal.returns
returns c = record { best = tolerances-best c.texts_are_unambiguous.ensures; asked = tolerances-asked }
