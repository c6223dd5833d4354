use Rattle.clause_db.proofs.LawLemmas.{hints_sound}
use Rattle.clause_db.proofs.laws.held_hints_are_sound.Goals as goal

pub returns : goal.returns
returns c = record { law = hints_sound }
