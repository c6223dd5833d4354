use Rattle.std.proofs.Common.{ap, refl, length, arith, Some}
use Rattle.std.proofs.lemmas.List.{length_push}
use Rattle.propagate.specs.declared.entry.Entry.{Entry}
use Rattle.propagate.proofs.TrailLemmas.{new_entry}
use Rattle.propagate.proofs.ClauseLemmas.{literal_held}
use Rattle.propagate.proofs.GuardLemmas.{since_followed, since_true}
use Rattle.propagate.proofs.ReachLemmas.{literal_below, progress_followed, progress_none, room_for_edge, stopped_followed}
use Rattle.propagate.proofs.VisitLemmas.{leaves_false}
use Rattle.propagate.proofs.trail.Trail.assign_unit.Goals as goal

pub assign-requires-clause-room : goal.assign-requires-clause-room
assign-requires-clause-room c =
    let t = c.args.self.now in
    let below = literal_below t c.args.clauses.now.db.now c.args.clause c.args.lit c.requires.work.reasons c.requires.held c.requires.leaves in
    room_for_edge t c.args.clauses.now.links.now c.args.graph.now c.requires.work.room c.args.lit below c.in-None.ensures.truth

pub returns-in-Some-true-clause-since : goal.returns-in-Some-true-clause-since
returns-in-Some-true-clause-since c = λ m rest.
    since_true c.args.self.now c.args.clauses.now.db.now c.args.clause m c.args.lit c.requires.work.trail c.requires.work.closed c.requires.held
    (rw c.in-Some-true.field-0-test at c.in-Some-true.ensures.truth) rest

pub returns-in-Some-false-clause-reached : goal.returns-in-Some-false-clause-reached
returns-in-Some-false-clause-reached c =
    let is_false = rw c.in-Some-false.field-0-test at c.in-Some-false.ensures.truth in (
      progress_none c.args.self.now c.args.clauses.now c.args.graph.now c.requires.work,
      record { held = c.requires.held; falsified = leaves_false _ _ c.args.lit c.requires.leaves is_false },
    )

pub returns-in-Kept-clause-reached : goal.returns-in-Kept-clause-reached
returns-in-Kept-clause-reached c =
    rw c.assign.ensures.trail (progress_followed c.args.self.now c.args.clauses.now c.args.graph.now c.assign.new.graph c.args.lit c.args.clause c.requires.held c.requires.leaves c.in-None.ensures.truth c.requires.work
    c.assign.ensures.limits c.in-Kept.ensures.kept)

pub returns-in-Kept-clause-made : goal.returns-in-Kept-clause-made
returns-in-Kept-clause-made c =
    let t = c.args.self.now in
    let e : Entry = record { lit = c.args.lit; level = length t.levels; reason = Some c.args.clause } in
    rw c.assign.ensures.trail (literal_held _ (length t.entries) c.args.lit (omega (arith, length_push t.entries e)) (ap (λ (x : Entry). x.lit) (new_entry t.entries e (length t.entries) refl)))

pub returns-in-Kept-clause-since : goal.returns-in-Kept-clause-since
returns-in-Kept-clause-since c = λ m rest.
    rw c.assign.ensures.trail (since_followed c.args.self.now c.args.clauses.now.db.now c.args.clause m c.args.lit c.requires.work.trail c.requires.work.closed c.requires.held c.in-None.ensures.truth rest)

pub returns-in-Cycle-clause-reached : goal.returns-in-Cycle-clause-reached
returns-in-Cycle-clause-reached c =
    rw c.assign.ensures.trail (stopped_followed c.args.self.now c.args.clauses.now c.args.graph.now c.assign.new.graph c.args.lit c.args.clause c.requires.held c.requires.leaves c.in-None.ensures.truth c.requires.work
    c.assign.ensures.limits c.in-Cycle.ensures.same c.in-Cycle.ensures.refused)
