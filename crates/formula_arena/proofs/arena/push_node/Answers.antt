use Rattle.std.proofs.Common.{◌∙◌}
use Rattle.formula_arena.specs.contracts.node.CorePartialEq.TheImpl.{eq-value as core_eq}
use Rattle.formula_arena.proofs.Equality.{core_same}
use Rattle.formula_arena.proofs.Lookups.{insert_key-new}
use Rattle.formula_arena.proofs.arena.push_node.Goals as goal

pub returns-clause-ok : goal.returns-clause-ok
returns-clause-ok c = c.in_ok-insert.ensures.keys ∙ insert_key-new core_eq.it core_same c.args.node c.args.nodes.now.keys c.requires
