use Rattle.std.proofs.Common.{◌∙◌, ◌<◌, sym, length, arith}
use Rattle.propagate.proofs.ValueLemmas.{value_read, value_tells}
use Rattle.propagate.proofs.trail.Trail.value.Goals as goal

pub returns-clause-value : goal.returns-clause-value
returns-clause-value c =
    let inside = c.self.inside in
    let valued = c.self.invariant.valued in
    let below : c.args.var < length inside.places.items = rw (← c.self.view_is) at c.requires.in_range in
    let count = valued.count in
    let read = value_read inside.values.items c.args.var c.get.result c.index.result.now c.get.ensures.number (omega (arith, below, count)) c.index.ensures in
    rw (← c.self.view_is) (value_tells inside.entries.items inside.places.items c.args.var c.index.result.now c.self.invariant.stored.table (sym read ∙ valued.is c.args.var)).1

pub returns-clause-unassigned : goal.returns-clause-unassigned
returns-clause-unassigned c =
    let inside = c.self.inside in
    let valued = c.self.invariant.valued in
    let below : c.args.var < length inside.places.items = rw (← c.self.view_is) at c.requires.in_range in
    let count = valued.count in
    let read = value_read inside.values.items c.args.var c.get.result c.index.result.now c.get.ensures.number (omega (arith, below, count)) c.index.ensures in
    rw (← c.self.view_is) (value_tells inside.entries.items inside.places.items c.args.var c.index.result.now c.self.invariant.stored.table (sym read ∙ valued.is c.args.var)).0
