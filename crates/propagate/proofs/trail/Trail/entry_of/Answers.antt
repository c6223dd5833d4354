use Rattle.std.proofs.Common.{◌∙◌, ◌<◌, length, arith}
use Rattle.propagate.specs.Trails.{IsAssigned}
use Rattle.propagate.proofs.TableLemmas.{assigned_below, assigned_not, read_place, table_none}
use Rattle.propagate.proofs.trail.Trail.entry_of.Goals as goal

pub index-requires : goal.index-requires
index-requires c =
    let inside = c.self.inside in
    let assigned : IsAssigned inside.entries.items c.args.var = rw (← c.self.view_is) at c.requires.assigned in
    let below : c.args.var < length inside.places.items = assigned_below _ c.args.var c.self.invariant.stored.trail assigned in
    omega (arith, below, c.get.ensures.number, inside.places.ok.0)

pub unreachable-requires : goal.unreachable-requires
unreachable-requires c =
    let inside = c.self.inside in
    let assigned : IsAssigned inside.entries.items c.args.var = rw (← c.self.view_is) at c.requires.assigned in
    let below : c.args.var < length inside.places.items = assigned_below _ c.args.var c.self.invariant.stored.trail assigned in
    let none = read_place inside.places.items c.args.var _ _ c.get.ensures.number below c.index.ensures ∙ c.in-None.is in
    assigned_not inside.entries.items c.args.var assigned (table_none inside.entries.items inside.places.items c.args.var c.self.invariant.stored.table none)

pub index-requires-in-Some : goal.index-requires-in-Some
index-requires-in-Some c =
    let inside = c.self.inside in
    let assigned : IsAssigned inside.entries.items c.args.var = rw (← c.self.view_is) at c.requires.assigned in
    let below : c.args.var < length inside.places.items = assigned_below _ c.args.var c.self.invariant.stored.trail assigned in
    let at = c.self.invariant.stored.table.there c.args.var c.in-Some.place (read_place inside.places.items c.args.var _ _ c.get.ensures.number below c.index.ensures ∙ c.in-Some.is) in
    omega (arith, at.0, inside.entries.ok.0)
