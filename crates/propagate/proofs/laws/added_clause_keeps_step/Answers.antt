use Rattle.propagate.proofs.LawLemmas.{added_clause_keeps}
use Rattle.propagate.proofs.laws.added_clause_keeps_step.Goals as goal

pub returns : goal.returns
returns c = record { law = added_clause_keeps }
