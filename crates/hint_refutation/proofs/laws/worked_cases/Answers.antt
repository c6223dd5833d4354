use Rattle.hint_refutation.proofs.Cases.{worked}
use Rattle.hint_refutation.proofs.laws.worked_cases.Goals as goal

pub returns : goal.returns
returns c = record { law = worked }
