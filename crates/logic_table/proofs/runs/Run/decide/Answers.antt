use Rattle.std.proofs.Common.{ap, [], arith, rules}
use Rattle.propagate.specs.Trails.{Assigned}
use Rattle.logic_table.proofs.runs.Run.decide.Goals as goal

pub decide-requires-clause-room : goal.decide-requires-clause-room
decide-requires-clause-room c =
    c.room_for_all_is_room.ensures.law.next c.args.self.now.trail c.args.db.now c.args.self.now.links [] c.args.self.now.graph c.var.result c.trails_are_in_order.ensures.trail c.requires.ready.step
    (let room = c.requires.ready.room in omega (arith, room)) (let low = c.requires.in_range in let var = c.var.ensures.variable in omega (arith, low, var))
    (c.value.ensures.unassigned.0 (search rules))

pub propagate-requires : goal.propagate-requires
propagate-requires c =
    let vars = ap (λ (t : Assigned). t.vars) c.decide.ensures.trail in
    let capacity = c.decide.ensures.limits.capacity in
    let room = c.requires.ready.room in
    record {
      ready = record {
        step = c.in-Kept.ensures.in_step c.args.db.now [] c.requires.ready.step;
        closed = c.decide.ensures.closed c.args.db.now c.requires.ready.closed c.requires.closed;
        room = omega (arith, vars, capacity, room);
      };
    }

pub returns-in-Cycle-clause-halted : goal.returns-in-Cycle-clause-halted
returns-in-Cycle-clause-halted c =
    let lacks = c.in-Cycle.ensures.lacks_last c.args.db.now [] c.requires.ready.step in
    record {
      reasons = lacks.step.reasons;
      closed = c.decide.ensures.closed c.args.db.now c.requires.ready.closed c.requires.closed;
      marks = c.step_holds_marks.ensures.law.lacks_last c.decide.new.self c.args.db.now c.args.self.now.links [] c.decide.new.graph c.trails_are_in_order-in-Cycle.ensures.trail lacks;
      ready = tt;
      settled = tt;
      conflict = tt;
    }
