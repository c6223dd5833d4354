use Rattle.std.proofs.Common.{◌∙◌, [], ◌∷◌, ◌++◌, arith}
use Rattle.formula_arena.specs.declared.node.Core.TheVariants as core
use Rattle.formula_arena.proofs.Grown.{unchanged}
use Rattle.formula_arena.proofs.Steps.{prop-absent, prop-at, prop-kept, prop-nodes, prop-table, prop-too_many}
use Rattle.formula_arena.proofs.Tables.{few-entries, few-nodes, proposition-new}
use Rattle.formula_arena.proofs.arena.Arena.add_new_prop.Goals as goal

pub returns-in_err-id : goal.returns-in_err-id
returns-in_err-id c =
    unchanged _ c.from_residual.ensures.0
    (λ e. prop-too_many c.self.inside.props.entries c.self.inside.nodes.keys c.self.invariant c.args.self.now c.self.view_is c.args.prop c.requires c.in_err-id.ensures.full)

pub overflow_cast-len : goal.overflow_cast-len
overflow_cast-len c =
    omega (arith, c.len.ensures.len, few-entries c.self.inside.props.entries c.self.inside.nodes.keys c.self.invariant, few-nodes c.self.inside.props.entries c.self.inside.nodes.keys c.self.invariant)

pub push_prop-requires : goal.push_prop-requires
push_prop-requires c = prop-absent c.self.inside.props.entries c.self.inside.nodes.keys c.self.invariant c.args.self.now c.self.view_is c.args.prop c.requires

pub push_node-requires : goal.push_node-requires
push_node-requires c =
    proposition-new c.self.inside.props.entries c.self.inside.nodes.keys c.self.invariant c.reserve.new.self.keys c.in_ok-reserve.ensures.keys c.new.result (c.new.ensures.number ∙ c.len.ensures.len)

pub invariant_of-self-2 : goal.invariant_of-self-2
invariant_of-self-2 c =
    prop-table c.self.inside.props.entries c.self.inside.nodes.keys c.self.invariant c.args.self.now c.self.view_is c.args.prop c.requires c.in_ok-id.id
    c.in_ok-id.ensures.room.0 c.push_prop.new.props.entries c.push_node.new.nodes.keys c.in_ok-push_prop.ensures.ok
    (c.in_ok-push_node.ensures.ok ∙ (λ i. c.in_ok-reserve.ensures.keys i ++ core.Prop ((c.new.ensures.number ∙ c.len.ensures.len) i) ∷ []))
    (let r = c.in_ok-id.ensures.room in omega (arith, r.0, r.1))

pub returns : goal.returns
returns c =
    let pushed = c.in_ok-push_node.ensures.ok ∙ (λ i. c.in_ok-reserve.ensures.keys i ++ core.Prop ((c.new.ensures.number ∙ c.len.ensures.len) i) ∷ []) in
    record {
      at =
          prop-at c.self.inside.props.entries c.self.inside.nodes.keys c.self.invariant c.args.self.now c.self.view_is c.args.prop c.requires c.in_ok-id.id
          c.in_ok-id.ensures.room.0 c.push_prop.new.props.entries c.push_node.new.nodes.keys c.in_ok-push_prop.ensures.ok pushed;
      nodes =
          prop-nodes c.self.inside.props.entries c.self.inside.nodes.keys c.self.invariant c.args.self.now c.self.view_is c.args.prop c.requires c.in_ok-id.id
          c.in_ok-id.ensures.room.0 c.push_prop.new.props.entries c.push_node.new.nodes.keys c.in_ok-push_prop.ensures.ok pushed;
      too_many = λ e. absurd (cc);
      kept =
          prop-kept c.self.inside.props.entries c.self.inside.nodes.keys c.self.invariant c.args.self.now c.self.view_is c.args.prop c.requires c.in_ok-id.id
          c.in_ok-id.ensures.room.0 c.push_prop.new.props.entries c.push_node.new.nodes.keys c.in_ok-push_prop.ensures.ok pushed;
    }
