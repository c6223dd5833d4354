use Rattle.clause_db.proofs.LawLemmas.{variables_valued}
use Rattle.clause_db.proofs.laws.variables_have_values.Goals as goal

pub returns : goal.returns
returns c = record { law = variables_valued }
