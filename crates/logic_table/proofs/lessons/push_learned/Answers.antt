use Rattle.std.proofs.Common.{◌-◌, [], length, arith}
use Rattle.clause_db.specs.Clauses.{clause_at}
use Rattle.cdcl_core.proofs.Conflicts.{here_of_settled}
use Rattle.logic_table.proofs.lessons.push_learned.Goals as goal

-- the level below the present one is closed, so that the false clause has a literal of the present one
pub learn-requires-clause-here : goal.learn-requires-clause-here
learn-requires-clause-here c =
    let t = c.args.trail.now in
    let some = c.requires.level in
    here_of_settled t c.trails_are_in_order.ensures.trail (clause_at c.args.db.now c.args.conflict) some c.requires.conflict.falsified
    (c.requires.closed (length t.levels - 1) (omega (arith, some)) c.args.conflict [] c.requires.conflict.held)
