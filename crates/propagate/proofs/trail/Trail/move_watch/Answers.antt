use Rattle.std.proofs.Common.{◌∙◌, sym, refl}
use Rattle.std.proofs.lemmas.Bool.{false≢true}
use Rattle.propagate.proofs.MoveLemmas.{best_apart, next_level, step_anew, step_listed, step_moved, step_watched, step_unwatched, step_within}
use Rattle.propagate.proofs.trail.Trail.move_watch.Goals as goal

pub returns-then-true_up_to-clause-moved : goal.returns-then-true_up_to-clause-moved
returns-then-true_up_to-clause-moved c =
    let t = c.args.self.now in
    let level = next_level t c.args.watcher.lit c.var.result c.level_of.result c.requires.trail c.requires.next c.var.ensures.variable c.level_of.ensures.level in
    let since = c.true_up_to.ensures.since.0 c.if-true_up_to.true in
    (refl, rw (level, c.negated.ensures.other) at since)

pub set_watch-requires-clause-listed : goal.set_watch-requires-clause-listed
set_watch-requires-clause-listed c =
    let t = c.args.self.now in
    let level = next_level t c.args.watcher.lit c.var.result c.level_of.result c.requires.trail c.requires.next c.var.ensures.variable c.level_of.ensures.level in
    let apart =
    best_apart t c.args.watcher.lit c.args.watch.second c.negated.result c.level_of.result c.requires.next level c.negated.ensures.other
    (λ since. false≢true (sym c.if-true_up_to.false ∙ c.true_up_to.ensures.since.1 since)) in
    step_listed t c.args.watcher.lit c.args.watch.first c.args.watch.second c.args.watcher.clause c.args.watcher.place c.requires.trail c.requires.in_range c.requires.next
    c.requires.here c.requires.both c.requires.apart apart c.add_watcher.new.self c.in_ok-add_watcher.ensures.ok

pub set_watch-requires-clause-watched : goal.set_watch-requires-clause-watched
set_watch-requires-clause-watched c = step_watched c.args.self.now c.add_watcher.new.self c.args.watcher.lit c.args.watch.first c.args.watch.second c.args.watcher.clause c.requires.both c.in_ok-add_watcher.ensures.ok

pub drop_watcher-requires-clause-within : goal.drop_watcher-requires-clause-within
drop_watcher-requires-clause-within c =
    let t = c.args.self.now in
    let level = next_level t c.args.watcher.lit c.var.result c.level_of.result c.requires.trail c.requires.next c.var.ensures.variable c.level_of.ensures.level in
    let apart =
    best_apart t c.args.watcher.lit c.args.watch.second c.negated.result c.level_of.result c.requires.next level c.negated.ensures.other
    (λ since. false≢true (sym c.if-true_up_to.false ∙ c.true_up_to.ensures.since.1 since)) in
    step_within t c.args.watcher.lit c.args.watch.first c.args.watch.second c.args.watcher.clause c.args.watcher.place c.requires.trail c.requires.in_range c.requires.next
    c.requires.here c.requires.both c.requires.apart apart c.add_watcher.new.self c.in_ok-add_watcher.ensures.ok
    c.set_watch.new.self c.set_watch.ensures.trail

pub drop_watcher-requires-clause-unwatched : goal.drop_watcher-requires-clause-unwatched
drop_watcher-requires-clause-unwatched c =
    let t = c.args.self.now in
    let level = next_level t c.args.watcher.lit c.var.result c.level_of.result c.requires.trail c.requires.next c.var.ensures.variable c.level_of.ensures.level in
    let apart =
    best_apart t c.args.watcher.lit c.args.watch.second c.negated.result c.level_of.result c.requires.next level c.negated.ensures.other
    (λ since. false≢true (sym c.if-true_up_to.false ∙ c.true_up_to.ensures.since.1 since)) in
    step_unwatched t c.args.watcher.lit c.args.watch.first c.args.watch.second c.args.watcher.clause c.args.watcher.place c.requires.trail c.requires.in_range c.requires.next
    c.requires.here c.requires.both c.requires.apart apart c.add_watcher.new.self c.in_ok-add_watcher.ensures.ok
    c.set_watch.new.self c.set_watch.ensures.trail

pub returns-clause-moved : goal.returns-clause-moved
returns-clause-moved c =
    let t = c.args.self.now in
    let level = next_level t c.args.watcher.lit c.var.result c.level_of.result c.requires.trail c.requires.next c.var.ensures.variable c.level_of.ensures.level in
    let apart =
    best_apart t c.args.watcher.lit c.args.watch.second c.negated.result c.level_of.result c.requires.next level c.negated.ensures.other
    (λ since. false≢true (sym c.if-true_up_to.false ∙ c.true_up_to.ensures.since.1 since)) in
    step_moved t c.args.watcher.lit c.args.watch.first c.args.watch.second c.args.watcher.clause c.args.watcher.place c.requires.trail c.requires.in_range c.requires.next
    c.requires.here c.requires.both c.requires.apart apart c.add_watcher.new.self c.in_ok-add_watcher.ensures.ok
    c.set_watch.new.self c.set_watch.ensures.trail c.drop_watcher.new.self c.drop_watcher.ensures.trail

pub returns-clause-rewatched : goal.returns-clause-rewatched
returns-clause-rewatched c =
    let t = c.args.self.now in
    let level = next_level t c.args.watcher.lit c.var.result c.level_of.result c.requires.trail c.requires.next c.var.ensures.variable c.level_of.ensures.level in
    let apart =
    best_apart t c.args.watcher.lit c.args.watch.second c.negated.result c.level_of.result c.requires.next level c.negated.ensures.other
    (λ since. false≢true (sym c.if-true_up_to.false ∙ c.true_up_to.ensures.since.1 since)) in
    step_anew t c.args.watcher.lit c.args.watch.first c.args.watch.second c.args.watcher.clause c.args.watcher.place c.requires.trail c.requires.in_range c.requires.next
    c.requires.here c.requires.both c.requires.apart apart c.add_watcher.new.self c.in_ok-add_watcher.ensures.ok
    c.set_watch.new.self c.set_watch.ensures.trail c.drop_watcher.new.self c.drop_watcher.ensures.trail
