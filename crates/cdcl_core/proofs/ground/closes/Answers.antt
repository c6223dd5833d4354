use Rattle.std.proofs.Common.{arith}
use Rattle.cdcl_core.proofs.Closing.{cycle-of}
use Rattle.cdcl_core.proofs.ground.closes.Goals as goal

pub are_closed-requires-clause-first : goal.are_closed-requires-clause-first
are_closed-requires-clause-first c =
    let count = c.mark-mark.ensures.count in
    rw c.edge.ensures.edge ((c.graphs_are_solved.ensures.solution.system.each c.args.way.first _ (omega (arith, count, c.if-way-mark.false))).bound)

pub are_closed-requires-clause-second : goal.are_closed-requires-clause-second
are_closed-requires-clause-second c =
    let count = c.mark-mark.ensures.count in
    rw c.edge-2.ensures.edge ((c.graphs_are_solved.ensures.solution.system.each c.args.way.second _ (omega (arith, count, c.if-way-mark-2.false))).bound)

pub returns-clause-cycle : goal.returns-clause-cycle
returns-clause-cycle c = λ yes.
    let count = c.mark-mark.ensures.count in
    let closed = rw (c.edge.ensures.edge, c.edge-2.ensures.edge) at c.are_closed.ensures.closed yes in
    cycle-of c.args.graph.now.edges c.args.edge c.args.way.first c.args.way.second (omega (arith, count, c.if-way-mark.false)) (omega (arith, count, c.if-way-mark-2.false)) closed
