use Rattle.std.proofs.Common.{[], subst, sym, arith}
use Rattle.std.proofs.lemmas.Option.{slice_get_within}
use Rattle.formula_arena.specs.Nodes.{IsAt}
use Rattle.formula_arena.specs.Table.{tree_over}
use Rattle.formula_arena.proofs.Grown.{known, unchanged}
use Rattle.formula_arena.proofs.Steps.{fresh-at, fresh-kept, fresh-nodes, fresh-table, fresh-too_many, known-at, known-nodes}
use Rattle.formula_arena.proofs.Tables.{few-nodes}
use Rattle.formula_arena.proofs.arena.Arena.add.Goals as goal

pub overflow_cast-place : goal.overflow_cast-place
overflow_cast-place c =
    omega (arith, slice_get_within c.self.inside.nodes.keys c.in-Some.place c.args.node c.in-Some.ensures.found, few-nodes c.self.inside.props.entries c.self.inside.nodes.keys c.self.invariant)

pub returns-in-Some : goal.returns-in-Some
returns-in-Some c =
    let old = c.args.self.now in
    known
    (subst (λ k. IsAt old k (tree_over [] old c.args.node)) (sym c.new.ensures.number)
    (known-at c.self.inside.props.entries c.self.inside.nodes.keys c.self.invariant old c.self.view_is c.args.node c.requires c.in-Some.place c.in-Some.ensures.found))
    (known-nodes c.self.inside.props.entries c.self.inside.nodes.keys c.self.invariant old c.self.view_is c.args.node c.requires c.in-Some.place c.in-Some.ensures.found)

pub returns-in_err-id : goal.returns-in_err-id
returns-in_err-id c =
    unchanged _ c.from_residual.ensures.0
    (λ e. fresh-too_many c.self.inside.props.entries c.self.inside.nodes.keys c.self.invariant c.args.self.now c.self.view_is c.args.node c.requires
    c.in_default.ensures.absent c.in_err-id.ensures.full)

pub invariant_of-self-2 : goal.invariant_of-self-2
invariant_of-self-2 c =
    fresh-table c.self.inside.props.entries c.self.inside.nodes.keys c.self.invariant c.args.self.now c.self.view_is c.args.node c.requires
    c.in_default.ensures.absent c.push_node.new.nodes.keys c.in_ok-push_node.ensures.ok
    (let r = c.in_ok-id.ensures.room in omega (arith, r.0, r.1))

pub returns : goal.returns
returns c = record {
  at =
      fresh-at c.self.inside.props.entries c.self.inside.nodes.keys c.self.invariant c.args.self.now c.self.view_is c.args.node c.requires
      c.in_default.ensures.absent c.push_node.new.nodes.keys c.in_ok-push_node.ensures.ok c.in_ok-id.id c.in_ok-id.ensures.room.0;
  nodes =
      fresh-nodes c.self.inside.props.entries c.self.inside.nodes.keys c.self.invariant c.args.self.now c.self.view_is c.args.node c.requires
      c.in_default.ensures.absent c.push_node.new.nodes.keys c.in_ok-push_node.ensures.ok;
  too_many = λ e. absurd (cc);
  kept =
      fresh-kept c.self.inside.props.entries c.self.inside.nodes.keys c.self.invariant c.args.self.now c.self.view_is c.args.node c.requires
      c.in_default.ensures.absent c.push_node.new.nodes.keys c.in_ok-push_node.ensures.ok;
}
