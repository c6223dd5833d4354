use Rattle.clause_db.proofs.LawLemmas.{negation_other}
use Rattle.clause_db.proofs.laws.negation_is_other.Goals as goal

pub returns : goal.returns
returns c = record { law = negation_other }
