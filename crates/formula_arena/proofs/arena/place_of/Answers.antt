use Rattle.formula_arena.specs.contracts.node.CorePartialEq.TheImpl.{eq-value as core_eq}
use Rattle.formula_arena.proofs.Equality.{core_same}
use Rattle.formula_arena.proofs.Lookups.{found-position}
use Rattle.formula_arena.proofs.arena.place_of.Goals as goal

pub returns-clause-found : goal.returns-clause-found
returns-clause-found c = found-position core_eq.it core_same c.args.node.now c.args.nodes.now.keys _ c.get_index_of.ensures.index
