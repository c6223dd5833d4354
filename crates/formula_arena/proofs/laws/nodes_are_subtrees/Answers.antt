use Rattle.formula_arena.proofs.NodeLemmas.{nodes-subtrees}
use Rattle.formula_arena.proofs.laws.nodes_are_subtrees.Goals as goal

pub returns : goal.returns
returns c = nodes-subtrees
