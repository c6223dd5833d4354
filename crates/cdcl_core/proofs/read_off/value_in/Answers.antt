use Rattle.std.proofs.Common.{true, subst}
use Rattle.std.proofs.lemmas.Option.{get_or_from_slice_get, slice_get_within}
use Rattle.neg_cycle.specs.declared.system.TheConstants.{MAX_NODES}
use Rattle.cdcl_core.specs.Orders.{IsOrderAmong}
use Rattle.cdcl_core.proofs.Decisions.{edges_read}
use Rattle.cdcl_core.proofs.ProblemAtoms.{orders-more}
use Rattle.cdcl_core.proofs.Starts.{edges_fit}
use Rattle.cdcl_core.proofs.read_off.value_in.Goals as goal

pub order_edges-requires : goal.order_edges-requires
order_edges-requires c =
    let atoms = c.args.atoms.now in
    let a = c.atom.result in
    let is = c.atom.ensures.atom in
    let all = orders-more c.args.sight.now.graph.now.nodes MAX_NODES atoms c.graphs_are_solved.ensures.solution.system.few_nodes c.requires.orders in
    record { order = subst (IsOrderAmong MAX_NODES) (get_or_from_slice_get atoms c.args.var a a is) (all c.args.var a (slice_get_within atoms c.args.var a is)) }

pub meets-requires : goal.meets-requires
meets-requires c =
    let nodes = c.args.sight.now.graph.now.nodes in
    let atoms = c.args.atoms.now in
    let a = c.atom.result in
    let is = c.atom.ensures.atom in
    let order : IsOrderAmong nodes a = subst (IsOrderAmong nodes) (get_or_from_slice_get atoms c.args.var a a is) (c.requires.orders c.args.var a (slice_get_within atoms c.args.var a is)) in
    record { edge = rw (← c.in-Some.ensures.edges) at (edges_fit nodes a true order) }

pub returns-in-Some : goal.returns-in-Some
returns-in-Some c = record { order = rw (edges_read c.args.atoms.now c.args.var c.atom.result c.atom.ensures.atom, ← c.in-Some.ensures.edges) c.meets.ensures.met }

pub returns-in-None : goal.returns-in-None
returns-in-None c = record { order = rw (edges_read c.args.atoms.now c.args.var c.atom.result c.atom.ensures.atom, ← c.in-None.ensures.edges) tt }
