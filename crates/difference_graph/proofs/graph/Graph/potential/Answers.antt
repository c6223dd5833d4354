use Rattle.difference_graph.proofs.GraphLemmas.{solved}
use Rattle.difference_graph.proofs.graph.Graph.potential.Goals as goal

pub returns-clause-solution : goal.returns-clause-solution
returns-clause-solution c =
    let i = c.self.inside in
    rw (← c.self.view_is) (solved i.held.edges.items i.limit i.current.items c.self.invariant.0 i.work.walk.items)
