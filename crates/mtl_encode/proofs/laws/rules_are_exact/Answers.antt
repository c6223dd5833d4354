use Rattle.mtl_encode.proofs.RulesExact.{rules-exact}
use Rattle.mtl_encode.proofs.laws.rules_are_exact.Goals as goal

pub returns : goal.returns
returns c = rules-exact c.cores_are_cores.ensures c.nodes_are_subtrees.ensures c.truth_of_core.ensures c.truth_by_rows.ensures
