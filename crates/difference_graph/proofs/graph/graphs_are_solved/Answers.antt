use Rattle.difference_graph.proofs.GraphLemmas.{solved}
use Rattle.difference_graph.proofs.graph.graphs_are_solved.Goals as goal

pub returns : goal.returns
returns c =
    let i = c.graph.inside in
    record { solution = rw (← c.graph.view_is) (solved i.held.edges.items i.limit i.current.items c.graph.invariant.0 i.work.walk.items) }
