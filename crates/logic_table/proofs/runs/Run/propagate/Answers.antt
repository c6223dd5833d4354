use Rattle.std.proofs.Common.{[], arith}
use Rattle.logic_table.proofs.Halting.{halted}
use Rattle.logic_table.proofs.runs.Run.propagate.Goals as goal

pub propagate-requires-clause-room : goal.propagate-requires-clause-room
propagate-requires-clause-room c =
    c.room_for_all_is_room.ensures.law.each c.args.self.now.trail c.args.db.now c.args.self.now.links [] c.args.self.now.graph c.trails_are_in_order.ensures.trail c.requires.ready.step
    (let room = c.requires.ready.room in omega (arith, room))

pub returns-clause-halted : goal.returns-clause-halted
returns-clause-halted c =
    halted c.args.db.now c.args.self.now.links c.args.self.now.trail c.propagate.new.self c.args.self.now.graph c.propagate.new.graph c.in-Ok.reached c.step_holds_marks.ensures.law
    c.requires.ready c.trails_are_in_order-2.ensures.trail c.propagate.ensures.reasons
    (c.propagate.ensures.closed c.requires.ready.closed) c.propagate.ensures.grown.vars c.propagate.ensures.edges.limits.capacity
    c.in-Ok.ensures.in_step c.in-Ok.ensures.lacks_last c.in-Ok.ensures.closed_at c.in-Ok.ensures.clause_conflict
