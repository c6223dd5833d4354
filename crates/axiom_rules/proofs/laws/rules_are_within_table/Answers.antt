use Rattle.axiom_rules.proofs.TableLemmas.{rules-within}
use Rattle.axiom_rules.proofs.laws.rules_are_within_table.Goals as goal

pub returns : goal.returns
returns c = rules-within
