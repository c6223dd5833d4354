use Rattle.axiom_rules.proofs.OnceLemmas.{clauses-once}
use Rattle.axiom_rules.proofs.laws.clauses_have_atoms_once.Goals as goal

pub returns : goal.returns
returns c = clauses-once
