use Rattle.std.proofs.Common.{◌<◌, length}
use Rattle.propagate.proofs.TableLemmas.{place_none, read_place}
use Rattle.propagate.proofs.trail.Trail.place.Goals as goal

pub returns-clause-unassigned : goal.returns-clause-unassigned
returns-clause-unassigned c =
    let inside = c.self.inside in
    let below : c.args.var < length inside.places.items = rw (← c.self.view_is) at c.requires.in_range in
    rw (← c.self.view_is)
    (place_none inside.entries.items inside.places.items c.args.var c.index.result.now c.self.invariant.stored.table
    (read_place inside.places.items c.args.var _ _ c.get.ensures.number below c.index.ensures))
