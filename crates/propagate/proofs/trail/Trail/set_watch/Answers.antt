use Rattle.propagate.proofs.StoredLemmas.{stored_set}
use Rattle.propagate.proofs.trail.Trail.set_watch.Goals as goal

pub invariant_of-self : goal.invariant_of-self
invariant_of-self c = record {
  stored =
      let inside = c.self.inside in
      let known = rw (← c.self.view_is) at c.requires.known in
      let listed = rw (← c.self.view_is) at c.requires.listed in
      let watched = rw (← c.self.view_is) at c.requires.watched in
      stored_set inside.entries.items inside.places.items inside.levels.items _ _ _ _ c.self.invariant.stored c.args.clause c.args.watch c.set.new.self c.set.ensures.watch known watched listed;
  valued = c.self.invariant.valued;
}

pub returns-clause-after : goal.returns-clause-after
returns-clause-after c = (invariant_of-self c).stored.trail
