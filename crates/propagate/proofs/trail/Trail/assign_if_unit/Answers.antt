use Rattle.propagate.proofs.GuardLemmas.{best_leaves}
use Rattle.propagate.proofs.VisitLemmas.{assigned_if_ok}
use Rattle.propagate.proofs.trail.Trail.assign_if_unit.Goals as goal

pub assign_unit-requires-clause-leaves : goal.assign_unit-requires-clause-leaves
assign_unit-requires-clause-leaves c =
    let at = c.in-Some.ensures.level in
    best_leaves c.args.self.now.entries _ c.args.watch.first c.args.watch.second at.0 c.requires.has c.requires.best at.1 at.2

pub returns-in-Some-clause-assigned : goal.returns-in-Some-clause-assigned
returns-in-Some-clause-assigned c =
    assigned_if_ok c.args.clauses.now c.args.self.now c.args.graph.now c.assign_unit.new.self c.assign_unit.new.graph _
    c.args.watch.first c.args.watch.second _ c.requires.best c.in-Some.ensures.level c.assign_unit.result c.assign_unit.ensures.reached
    c.assign_unit.ensures.made
    c.assign_unit.ensures.since
