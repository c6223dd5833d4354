use Rattle.axiom_rules.proofs.RulesHold.{rules-hold}
use Rattle.axiom_rules.proofs.laws.rules_hold.Goals as goal

pub returns : goal.returns
returns c = rules-hold c.cores_are_cores.ensures c.nodes_are_subtrees.ensures c.truth_of_core.ensures c.before_is_not_later.ensures
