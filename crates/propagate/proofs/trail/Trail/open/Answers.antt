use Rattle.std.proofs.Common.{◌≡◌, ◌<◌, ◌∙◌, ◌+◌, None, length, arith}
use Rattle.propagate.specs.Trails.{IsUnassigned}
use Rattle.propagate.proofs.TableLemmas.{room_for_entry, room_for_level, stored_decided}
use Rattle.propagate.proofs.ValueLemmas.{values_push}
use Rattle.propagate.proofs.trail.Trail.open.Goals as goal

pub overflow_add-level : goal.overflow_add-level
overflow_add-level c =
    let inside = c.self.inside in
    let below : c.args.lit.var < length inside.places.items = rw (← c.self.view_is) at c.requires.in_range in
    let free : IsUnassigned inside.entries.items c.args.lit.var = rw (← c.self.view_is) at c.requires.unassigned in
    let level : c.level-level.result ≡ length inside.levels.items = rw (← c.self.view_is) at c.level-level.ensures.level in
    let more = room_for_level inside.entries.items inside.places.items inside.levels.items _ _ _ _ c.args.lit c.self.invariant.stored below free in
    omega (arith, more, level, c.self.invariant.stored.few)

pub push_within-requires : goal.push_within-requires
push_within-requires c =
    let inside = c.self.inside in
    let below : c.args.lit.var < length inside.places.items = rw (← c.self.view_is) at c.requires.in_range in
    let free : IsUnassigned inside.entries.items c.args.lit.var = rw (← c.self.view_is) at c.requires.unassigned in
    let more = room_for_entry inside.entries.items inside.places.items inside.levels.items _ _ _ _ c.args.lit c.self.invariant.stored below free in
    record { room = omega (arith, more, c.self.invariant.stored.entry_room) }

pub push_within-requires-2 : goal.push_within-requires-2
push_within-requires-2 c =
    let inside = c.self.inside in
    let below : c.args.lit.var < length inside.places.items = rw (← c.self.view_is) at c.requires.in_range in
    let free : IsUnassigned inside.entries.items c.args.lit.var = rw (← c.self.view_is) at c.requires.unassigned in
    let more = room_for_level inside.entries.items inside.places.items inside.levels.items _ _ _ _ c.args.lit c.self.invariant.stored below free in
    record { room = omega (arith, more, c.self.invariant.stored.level_room) }

pub invariant_of-self : goal.invariant_of-self
invariant_of-self c = record {
  stored =
      let inside = c.self.inside in
      let below : c.args.lit.var < length inside.places.items = rw (← c.self.view_is) at c.requires.in_range in
      let free : IsUnassigned inside.entries.items c.args.lit.var = rw (← c.self.view_is) at c.requires.unassigned in
      let start : c.len-start.result ≡ length inside.entries.items = rw (← c.self.view_is) at c.len-start.ensures.count in
      let level : c.level-level.result ≡ length inside.levels.items = rw (← c.self.view_is) at c.level-level.ensures.level in
      stored_decided inside.entries.items c.push_within.new.list.items inside.places.items inside.levels.items
      c.push_within-2.new.list.items _ _ _ _ _ _ c.args.lit c.args.mark c.get-at.result c.level-level.result
      c.len-start.result c.self.invariant.stored c.push_within.ensures.capacity c.push_within-2.ensures.capacity below free
      (c.get-at.ensures.number ∙ c.var.ensures.variable) start level c.push_within.ensures.items
      c.push_within-2.ensures.items;
  valued =
      let inside = c.self.inside in
      let below : c.args.lit.var < length inside.places.items = rw (← c.self.view_is) at c.requires.in_range in
      let start : c.len-start.result ≡ length inside.entries.items = rw (← c.self.view_is) at c.len-start.ensures.count in
      let level : c.level-level.result ≡ length inside.levels.items = rw (← c.self.view_is) at c.level-level.ensures.level in
      rw (c.push_within.ensures.items, start, level, c.get-at.ensures.number ∙ c.var.ensures.variable, c.positive.ensures.sense)
      (values_push inside.entries.items (record { lit = c.args.lit; level = length inside.levels.items + 1; reason = None })
      inside.places.items inside.values.items c.self.invariant.valued c.self.invariant.stored.table below);
}

pub returns-clause-after : goal.returns-clause-after
returns-clause-after c = (invariant_of-self c).stored.trail
