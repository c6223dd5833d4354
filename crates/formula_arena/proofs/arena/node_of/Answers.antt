use Rattle.std.proofs.Common.{◌∙◌}
use Rattle.formula_arena.specs.contracts.node.PropositionPartialEq.TheImpl.{eq-value as prop_eq}
use Rattle.formula_arena.specs.contracts.node.PropositionEq.TheImpl.Laws.{laws-law}
use Rattle.formula_arena.proofs.Equality.{prop_same}
use Rattle.formula_arena.proofs.Lookups.{absent-lookup, found-lookup}
use Rattle.formula_arena.proofs.arena.node_of.Goals as goal

pub returns-clause-found : goal.returns-clause-found
returns-clause-found c = found-lookup prop_eq.it prop_same c.args.prop.now c.args.props.now.entries _ (c.copied.ensures ∙ c.get.ensures.value)

pub returns-clause-absent : goal.returns-clause-absent
returns-clause-absent c = absent-lookup prop_eq.it prop_same laws-law c.args.prop.now c.args.props.now.entries _ (c.copied.ensures ∙ c.get.ensures.value)
