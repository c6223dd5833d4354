use Rattle.std.proofs.Common.{◌∙◌, sym, ap, length, arith}
use Rattle.indexmap.specs.IndexMap.{keys}
use Rattle.formula_arena.proofs.TableLemmas.{length-trees_of}
use Rattle.formula_arena.proofs.arena.Arena.len.Goals as goal

pub returns-clause-nodes : goal.returns-clause-nodes
returns-clause-nodes c = c.len.ensures.len ∙ sym (length-trees_of (keys c.self.inside.props) c.self.inside.nodes.keys) ∙ ap length c.self.view_is

pub overflow_cast-result : goal.overflow_cast-result
overflow_cast-result c = omega (arith, c.len.ensures.len, length-trees_of (keys c.self.inside.props) c.self.inside.nodes.keys, c.self.invariant.arena.few)
