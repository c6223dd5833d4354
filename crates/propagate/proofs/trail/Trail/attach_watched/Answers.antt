use Rattle.std.proofs.Common.{◌<◌, length, arith}
use Rattle.propagate.proofs.VisitLemmas.{listed_two}
use Rattle.propagate.proofs.trail.Trail.attach_watched.Goals as goal

pub attach-requires-clause-next : goal.attach-requires-clause-next
attach-requires-clause-next c = rw (c.in_ok-add_watcher-2.ensures.ok, c.in_ok-add_watcher.ensures.ok) c.requires.next

pub attach-requires-clause-listed : goal.attach-requires-clause-listed
attach-requires-clause-listed c =
    let w = c.args.self.now.watching in
    let lists = c.add_watcher.ensures.before.lists in
    let first : c.args.watch.first.var < length w.watchers = omega (arith, lists, c.requires.first) in
    let second : c.args.watch.second.var < length w.watchers = omega (arith, lists, c.requires.second) in
    rw (c.in_ok-add_watcher-2.ensures.ok, c.in_ok-add_watcher.ensures.ok, ← c.requires.next) (listed_two w c.args.watch c.args.clause first second)
