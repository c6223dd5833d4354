use Rattle.std.proofs.Common.{◌<◌, ◌∙◌, length}
use Rattle.propagate.proofs.StoredLemmas.{either, stored_added}
use Rattle.propagate.proofs.trail.Trail.add_watcher.Goals as goal

pub invariant_of-self : goal.invariant_of-self
invariant_of-self c = record {
  stored =
      let inside = c.self.inside in
      let below : c.args.lit.var < length inside.places.items = rw (← c.self.view_is) at c.requires.in_range in
      let put = either c.push.result c.push.ensures.ok c.push.ensures.err in
      stored_added inside.entries.items inside.places.items inside.levels.items _ _ _ _ c.self.invariant.stored c.get.result c.args.lit
      c.args.clause c.positive.result c.index_mut.result.now c.push.new.self below
      (c.get.ensures.number ∙ c.var.ensures.variable) c.positive.ensures.sense c.index_mut.ensures.value put;
  valued = c.self.invariant.valued;
}

pub returns-clause-after : goal.returns-clause-after
returns-clause-after c = (invariant_of-self c).stored.trail
