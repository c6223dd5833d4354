use Rattle.mt_model.specs.Form.{Prop}
use Rattle.formula_arena.proofs.Grown.{known, same_tree}
use Rattle.formula_arena.proofs.Steps.{entry-at, entry-nodes, no_entry-lacks}
use Rattle.formula_arena.proofs.arena.Arena.add_prop.Goals as goal

pub add_new_prop-requires : goal.add_new_prop-requires
add_new_prop-requires c = no_entry-lacks c.self.inside.props.entries c.self.inside.nodes.keys c.self.invariant c.args.self.now c.self.view_is _ c.in-None.ensures.absent

pub returns-in-Some : goal.returns-in-Some
returns-in-Some c =
    let at =
    entry-at c.self.inside.props.entries c.self.inside.nodes.keys c.self.invariant c.args.self.now c.self.view_is
    (record { host = c.in_ok-copy.field-0; name = c.in_ok-copy-2.field-0 }) c.in-Some.id c.in-Some.ensures.found in
    let nodes =
    entry-nodes c.self.inside.props.entries c.self.inside.nodes.keys c.self.invariant c.args.self.now c.self.view_is
    (record { host = c.in_ok-copy.field-0; name = c.in_ok-copy-2.field-0 }) c.in-Some.id c.in-Some.ensures.found in
    same_tree (λ i. Prop (c.in_ok-copy.ensures.same i) (c.in_ok-copy-2.ensures.same i)) (known at nodes)

pub returns-in-None : goal.returns-in-None
returns-in-None c = same_tree (λ i. Prop (c.in_ok-copy.ensures.same i) (c.in_ok-copy-2.ensures.same i)) c.add_new_prop.ensures
