use Rattle.clause_db.proofs.LawLemmas.{added_leaves}
use Rattle.clause_db.proofs.laws.added_leaves_held.Goals as goal

pub returns : goal.returns
returns c = record { law = added_leaves }
