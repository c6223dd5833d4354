use Rattle.propagate.proofs.LawLemmas.{step_holds}
use Rattle.propagate.proofs.laws.step_holds_marks.Goals as goal

pub returns : goal.returns
returns c = record { law = step_holds }
