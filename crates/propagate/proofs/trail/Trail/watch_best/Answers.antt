use Rattle.std.proofs.Common.{◌≡◌, sym, subst, refl, ◌<◌, [], Some}
use Rattle.std.proofs.lemmas.Option.{same_Some}
use Rattle.std.proofs.lemmas.List.Elements.{All-contains}
use Rattle.std.proofs.lemmas.Result.{err_from_is_err_and}
use Rattle.propagate.proofs.ClauseLemmas.{literal_held}
use Rattle.propagate.proofs.GuardLemmas.{other_apart, other_in, this_in}
use Rattle.clause_db.specs.Literals.{negation}
use Rattle.clause_db.specs.Clauses.{clause_at}
use Rattle.clause_db.specs.declared.lit.Lit.{Lit}
use Rattle.propagate.specs.Watching.{Watching, AreWatchedOf, IsWatcherAt}
use Rattle.propagate.proofs.MoveLemmas.{best_progress, best_visited, watched_held}
use Rattle.propagate.proofs.VisitLemmas.{next_grown}
use Rattle.propagate.proofs.trail.Trail.watch_best.Goals as goal

pub best_after-requires-clause-has : goal.best_after-requires-clause-has
best_after-requires-clause-has c =
    rw c.lits.ensures.clause (this_in c.args.self.now c.args.clauses.now.db.now c.args.watcher.clause c.args.watcher.lit c.args.other c.requires.work.trail
    c.requires.work.watched c.requires.next c.requires.both)

pub best_after-requires-clause-apart : goal.best_after-requires-clause-apart
best_after-requires-clause-apart c = other_apart c.args.self.now c.args.clauses.now.db.now c.args.watcher.clause c.args.watcher.lit c.args.other c.requires.work.trail c.requires.work.watched c.requires.next c.requires.both

pub best_after-requires-clause-fallen : goal.best_after-requires-clause-fallen
best_after-requires-clause-fallen c = literal_held c.args.self.now.entries c.args.self.now.propagated (negation c.args.watcher.lit) c.requires.next.more c.requires.next.is

pub returns-in_err-move_watch-in-Some-clause-reached : goal.returns-in_err-move_watch-in-Some-clause-reached
returns-in_err-move_watch-in-Some-clause-reached c =
    let best = rw c.lits.ensures.clause at c.in-Some.ensures.best in
    let p = err_from_is_err_and c.from_residual-in_err-move_watch-in-Some.result c.from_residual-in_err-move_watch-in-Some.ensures.1 in
    rw (p.1, p.2)
    (best_progress c.args.clauses.now c.args.self.now c.args.graph.now c.assign_if_unit.new.self c.assign_if_unit.new.graph
    c.move_watch.new.self c.args.watcher.clause c.args.watcher.place c.args.watcher.lit c.args.other c.in-Some.best.lit c.requires.work c.requires.next
    c.requires.here c.requires.both best c.in_ok-assign_if_unit-in-Some.ensures.reached c.assign_if_unit.ensures.unmoved
    c.in_ok-assign_if_unit-in-Some.ensures.assigned c.move_watch.ensures.same c.move_watch.ensures.trail
    c.move_watch.ensures.rewatched)

pub returns-clause-reached : goal.returns-clause-reached
returns-clause-reached c =
    let best = rw c.lits.ensures.clause at c.in-Some.ensures.best in
    best_progress c.args.clauses.now c.args.self.now c.args.graph.now c.assign_if_unit.new.self c.assign_if_unit.new.graph
    c.move_watch.new.self c.args.watcher.clause c.args.watcher.place c.args.watcher.lit c.args.other c.in-Some.best.lit c.requires.work c.requires.next
    c.requires.here c.requires.both best c.in_ok-assign_if_unit-in-Some.ensures.reached c.assign_if_unit.ensures.unmoved
    c.in_ok-assign_if_unit-in-Some.ensures.assigned c.move_watch.ensures.same c.move_watch.ensures.trail c.move_watch.ensures.rewatched

pub returns-clause-visited : goal.returns-clause-visited
returns-clause-visited c =
    let best = rw c.lits.ensures.clause at c.in-Some.ensures.best in
    best_visited c.args.clauses.now c.args.self.now c.args.graph.now c.assign_if_unit.new.self c.assign_if_unit.new.graph
    c.move_watch.new.self c.args.watcher.clause c.args.watcher.place c.args.watcher.lit c.args.other c.in-Some.best.lit c.requires.work c.requires.next
    c.requires.here c.requires.both best c.in_ok-assign_if_unit-in-Some.ensures.reached c.assign_if_unit.ensures.unmoved
    c.in_ok-assign_if_unit-in-Some.ensures.assigned c.move_watch.ensures.same c.move_watch.ensures.trail c.move_watch.ensures.rewatched
    c.in_ok-move_watch-in-Some.field-0 c.in_ok-move_watch-in-Some.ensures.moved

pub lits-requires : goal.lits-requires
lits-requires c =
    let held = watched_held c.args.clauses.now c.args.self.now c.args.graph.now c.args.watcher.clause c.args.watcher.lit c.args.other c.requires.work c.requires.both in
    held

pub best_after-requires-clause-in_range : goal.best_after-requires-clause-in_range
best_after-requires-clause-in_range c =
    let held = watched_held c.args.clauses.now c.args.self.now c.args.graph.now c.args.watcher.clause c.args.watcher.lit c.args.other c.requires.work c.requires.both in
    rw c.lits.ensures.clause (c.requires.work.reasons.variables c.args.watcher.clause [] held)

pub assign_if_unit-requires : goal.assign_if_unit-requires
assign_if_unit-requires c =
    let held = watched_held c.args.clauses.now c.args.self.now c.args.graph.now c.args.watcher.clause c.args.watcher.lit c.args.other c.requires.work c.requires.both in
    record {
      work = c.requires.work;
      held = held;
      has = other_in c.args.self.now c.args.clauses.now.db.now c.args.watcher.clause c.args.watcher.lit c.args.other c.requires.work.trail c.requires.work.watched c.requires.next c.requires.both;
      best = rw c.lits.ensures.clause at c.in-Some.ensures.best;
    }

pub move_watch-requires : goal.move_watch-requires
move_watch-requires c =
    let held = watched_held c.args.clauses.now c.args.self.now c.args.graph.now c.args.watcher.clause c.args.watcher.lit c.args.other c.requires.work c.requires.both in
    let t = c.args.self.now in
    let s = c.assign_if_unit.new.self in
    let reached = c.in_ok-assign_if_unit-in-Some.ensures.reached in
    let unmoved = c.assign_if_unit.ensures.unmoved in
    let best = rw c.lits.ensures.clause at c.in-Some.ensures.best in
    let below = All-contains (λ (l : Lit). l.var < t.vars) (clause_at c.args.clauses.now.db.now c.args.watcher.clause) c.in-Some.best.lit (c.requires.work.reasons.variables c.args.watcher.clause [] held) best.has in
    record {
      trail = reached.work.trail;
      in_range = rw reached.grown.vars below;
      next = next_grown t s c.args.watcher.lit reached.grown unmoved.propagated c.requires.next;
      here = subst (λ (w : Watching). IsWatcherAt w c.args.watcher.lit c.args.watcher.place c.args.watcher.clause) (sym unmoved.watching) c.requires.here;
      both = subst (λ (w : Watching). AreWatchedOf w c.args.watcher.clause c.args.watcher.lit c.args.other) (sym unmoved.watching) c.requires.both;
      apart = other_apart t c.args.clauses.now.db.now c.args.watcher.clause c.args.watcher.lit c.args.other c.requires.work.trail c.requires.work.watched c.requires.next c.requires.both;
    }

pub returns-in_err-move_watch-in-Some-clause-visited : goal.returns-in_err-move_watch-in-Some-clause-visited
returns-in_err-move_watch-in-Some-clause-visited c =
    let p = err_from_is_err_and c.from_residual-in_err-move_watch-in-Some.result c.from_residual-in_err-move_watch-in-Some.ensures.1 in
    rw p.1 tt

pub unreachable-requires : goal.unreachable-requires
unreachable-requires c =
    let all = rw c.lits.ensures.clause at (c.in-None.ensures.none refl) in
    let same =
    All-contains (λ (x : Lit). Some c.args.other ≡ Some x) (clause_at c.args.clauses.now.db.now c.args.watcher.clause) c.args.watcher.lit all
    (this_in c.args.self.now c.args.clauses.now.db.now c.args.watcher.clause c.args.watcher.lit c.args.other c.requires.work.trail c.requires.work.watched
    c.requires.next c.requires.both) in
    other_apart c.args.self.now c.args.clauses.now.db.now c.args.watcher.clause c.args.watcher.lit c.args.other c.requires.work.trail c.requires.work.watched
    c.requires.next c.requires.both (same_Some c.args.other c.args.watcher.lit same)

pub returns-in_err-assign_if_unit-in-Some-clause-reached : goal.returns-in_err-assign_if_unit-in-Some-clause-reached
returns-in_err-assign_if_unit-in-Some-clause-reached c =
    let p = err_from_is_err_and c.from_residual.result c.from_residual.ensures.1 in
    rw (p.1, p.2) c.in_err-assign_if_unit-in-Some.ensures.reached

pub returns-in_err-assign_if_unit-in-Some-clause-visited : goal.returns-in_err-assign_if_unit-in-Some-clause-visited
returns-in_err-assign_if_unit-in-Some-clause-visited c =
    let p = err_from_is_err_and c.from_residual.result c.from_residual.ensures.1 in
    rw p.1 tt
