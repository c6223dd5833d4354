use Rattle.std.proofs.Common.{refl}
use Rattle.propagate.proofs.GuardLemmas.{guards_stay}
use Rattle.propagate.proofs.MoveLemmas.{next_level, other_below}
use Rattle.propagate.proofs.VisitLemmas.{guards_elsewhere, visited_stay}
use Rattle.propagate.proofs.trail.Trail.visit.Goals as goal

pub true_up_to-requires : goal.true_up_to-requires
true_up_to-requires c =
    record {
      in_range = other_below c.args.clauses.now c.args.self.now c.args.graph.now c.args.watcher.clause c.args.watcher.lit c.in-Some.other
          c.requires.work c.requires.next c.in-Some.ensures.beside;
    }

pub returns-in-None-clause-visited : goal.returns-in-None-clause-visited
returns-in-None-clause-visited c =
    let t = c.args.self.now in
    let work = c.requires.work in
    visited_stay t t c.args.watcher.lit c.args.watcher.clause c.args.watcher.place refl refl c.requires.here
    (guards_elsewhere t c.args.clauses.now.db.now c.args.watcher.lit c.args.watcher.clause work.trail work.watched c.requires.next (c.in-None.ensures.none refl))

pub returns-then-true_up_to-clause-visited : goal.returns-then-true_up_to-clause-visited
returns-then-true_up_to-clause-visited c =
    let t = c.args.self.now in
    let work = c.requires.work in
    let level = next_level t c.args.watcher.lit c.var.result c.level_of.result work.trail c.requires.next c.var.ensures.variable c.level_of.ensures.level in
    let since = rw level at (c.true_up_to.ensures.since.0 c.if-true_up_to.true) in
    visited_stay t t c.args.watcher.lit c.args.watcher.clause c.args.watcher.place refl refl c.requires.here
    (guards_stay t c.args.clauses.now.db.now c.args.watcher.clause c.args.watcher.lit c.in-Some.other work.trail work.watched c.requires.next c.in-Some.ensures.beside since)
