use Rattle.std.proofs.Common.{◌<◌, ◌∙◌, ap, take, length}
use Rattle.propagate.proofs.TableLemmas.{read_start, cut_is, stored_cut}
use Rattle.propagate.proofs.trail.Trail.cut.Goals as goal

pub invariant_of-self : goal.invariant_of-self
invariant_of-self c = record {
  stored =
      let inside = c.self.inside in
      let op : c.args.level < length inside.levels.items = rw (← c.self.view_is) at c.requires.within in
      let start = read_start inside.levels.items c.args.level _ op c.index.ensures in
      let entries = c.forget.ensures.entries ∙ ap (λ k. take k inside.entries.items) start in
      rw (c.forget.ensures.capacity, c.truncate.ensures.capacity, c.lesser-self-inside.ensures.lesser, start)
      (stored_cut inside.entries.items _ inside.places.items _ inside.levels.items _ _ _ _ _ c.args.level op c.self.invariant.stored entries
      c.truncate.ensures.items c.forget.ensures.count c.forget.ensures.table);
  valued = c.forget.ensures.values;
}

pub returns-clause-trail : goal.returns-clause-trail
returns-clause-trail c =
    let inside = c.self.inside in
    let op : c.args.level < length inside.levels.items = rw (← c.self.view_is) at c.requires.within in
    let start = read_start inside.levels.items c.args.level _ op c.index.ensures in
    let entries = c.forget.ensures.entries ∙ ap (λ k. take k inside.entries.items) start in
    rw (← c.self.view_is, c.lesser-self-inside.ensures.lesser, start)
    (cut_is inside.entries.items _ inside.places.items c.forget.new.places.items inside.levels.items _ _ _ c.args.level op
    c.self.invariant.stored.trail entries c.truncate.ensures.items c.forget.ensures.count)

pub returns-clause-after : goal.returns-clause-after
returns-clause-after c = (invariant_of-self c).stored.trail
