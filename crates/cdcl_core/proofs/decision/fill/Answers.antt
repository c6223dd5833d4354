use Rattle.cdcl_core.proofs.Decisions.{whole_satisfies}
use Rattle.cdcl_core.proofs.decision.fill.Goals as goal

pub returns-in_ok-values_of-in-None-clause-done : goal.returns-in_ok-values_of-in-None-clause-done
returns-in_ok-values_of-in-None-clause-done c =
    let s = c.args.sight.now in
    whole_satisfies c.args.theory.now.atoms s.vars s.db.now s.links.now s.trail.now s.graph.now c.in_ok-values_of-in-None.field-0 c.requires.running
    c.requires.count (c.requires.all_links cc) c.requires.settled c.in-None.ensures.none c.graphs_are_solved.ensures.solution
    c.in_ok-values_of-in-None.ensures.values
