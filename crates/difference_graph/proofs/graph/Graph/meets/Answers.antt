use Rattle.difference_graph.proofs.GraphLemmas.{met_less}
use Rattle.difference_graph.proofs.graph.Graph.meets.Goals as goal

pub returns : goal.returns
returns c =
    let i = c.self.inside in
    let same = met_less i.current.items c.args.edge (rw (← c.self.view_is) at c.requires.edge) in
    let met = rw c.deref.ensures.value at c.is_met.ensures.met in
    rw (← c.self.view_is) (record { met = (λ yes. same.0 (met.0 yes), λ meets. met.1 (same.1 meets)) })
