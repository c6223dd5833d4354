use Rattle.std.proofs.Common.{◌≡◌, ◌<◌, ◌∙◌, Some, length, arith}
use Rattle.propagate.specs.Trails.{IsUnassigned}
use Rattle.propagate.proofs.TableLemmas.{room_for_entry, stored_followed}
use Rattle.propagate.proofs.ValueLemmas.{values_push}
use Rattle.propagate.proofs.trail.Trail.follow.Goals as goal

pub push_within-requires : goal.push_within-requires
push_within-requires c =
    let inside = c.self.inside in
    let below : c.args.lit.var < length inside.places.items = rw (← c.self.view_is) at c.requires.in_range in
    let free : IsUnassigned inside.entries.items c.args.lit.var = rw (← c.self.view_is) at c.requires.unassigned in
    let more = room_for_entry inside.entries.items inside.places.items inside.levels.items _ _ _ _ c.args.lit c.self.invariant.stored below free in
    record { room = omega (arith, more, c.self.invariant.stored.entry_room) }

pub invariant_of-self : goal.invariant_of-self
invariant_of-self c = record {
  stored =
      let inside = c.self.inside in
      let below : c.args.lit.var < length inside.places.items = rw (← c.self.view_is) at c.requires.in_range in
      let free : IsUnassigned inside.entries.items c.args.lit.var = rw (← c.self.view_is) at c.requires.unassigned in
      let place : c.len-place.result ≡ length inside.entries.items = rw (← c.self.view_is) at c.len-place.ensures.count in
      let level : c.level-present.result ≡ length inside.levels.items = rw (← c.self.view_is) at c.level-present.ensures.level in
      stored_followed inside.entries.items c.push_within.new.list.items inside.places.items inside.levels.items _ _ _ _ _ c.args.lit
      c.get.result c.get-at.result c.level-present.result c.len-place.result
      c.self.invariant.stored c.push_within.ensures.capacity below free (c.get-at.ensures.number ∙ c.var.ensures.variable) place level c.push_within.ensures.items;
  valued =
      let inside = c.self.inside in
      let below : c.args.lit.var < length inside.places.items = rw (← c.self.view_is) at c.requires.in_range in
      let place : c.len-place.result ≡ length inside.entries.items = rw (← c.self.view_is) at c.len-place.ensures.count in
      let level : c.level-present.result ≡ length inside.levels.items = rw (← c.self.view_is) at c.level-present.ensures.level in
      rw (c.push_within.ensures.items, place, level, c.get-at.ensures.number ∙ c.var.ensures.variable, c.positive.ensures.sense)
      (values_push inside.entries.items (record { lit = c.args.lit; level = length inside.levels.items; reason = Some c.get.result })
      inside.places.items inside.values.items c.self.invariant.valued c.self.invariant.stored.table below);
}

pub returns-clause-after : goal.returns-clause-after
returns-clause-after c = (invariant_of-self c).stored.trail
