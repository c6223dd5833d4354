use Rattle.std.proofs.Common.{◌∙◌}
use Rattle.formula_arena.specs.contracts.node.PropositionPartialEq.TheImpl.{eq-value as prop_eq}
use Rattle.formula_arena.proofs.Equality.{prop_same}
use Rattle.formula_arena.proofs.Lookups.{insert_entry-fresh}
use Rattle.formula_arena.proofs.arena.push_prop.Goals as goal

pub returns-clause-ok : goal.returns-clause-ok
returns-clause-ok c = c.in_ok-insert.ensures.entries ∙ insert_entry-fresh prop_eq.it prop_same c.args.props.now c.args.prop c.args.node c.requires
