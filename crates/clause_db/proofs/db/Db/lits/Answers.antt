use Rattle.std.proofs.Common.{length, arith, ap}
use Rattle.hint_refutation.proofs.Pieces.{held_end}
use Rattle.clause_db.proofs.FlatLemmas.{span}
use Rattle.clause_db.proofs.db.Db.lits.Goals as goal

pub start_of-start-requires : goal.start_of-start-requires
start_of-start-requires c =
    let held = held_end c.self.inside.lits.items c.self.inside.ends.items _ c.args.c c.self.view_is c.requires in
    rw c.deref.ensures.value (omega (arith, c.get-place.ensures.place, held))

pub index-requires : goal.index-requires
index-requires c =
    let held = held_end c.self.inside.lits.items c.self.inside.ends.items _ c.args.c c.self.view_is c.requires in
    omega (arith, c.get-place.ensures.place, held, c.self.inside.ends.ok.0)

pub offset_bounds-deref-start : goal.offset_bounds-deref-start
offset_bounds-deref-start c =
    let s =
    span _ _ _ _ c.args.c _ _ _ c.self.view_is c.self.invariant c.requires c.get-place.ensures.place c.deref.ensures.value
    c.start_of-start.ensures.first c.start_of-start.ensures.later c.index.ensures in
    omega (arith, s.rising, s.within, c.deref-2.type_inv.1, ap length c.deref-2.ensures.value)

pub slice_bounds-result-count : goal.slice_bounds-result-count
slice_bounds-result-count c =
    let s =
    span _ _ _ _ c.args.c _ _ _ c.self.view_is c.self.invariant c.requires c.get-place.ensures.place c.deref.ensures.value
    c.start_of-start.ensures.first c.start_of-start.ensures.later c.index.ensures in
    s.rising

pub slice_bounds-result-start : goal.slice_bounds-result-start
slice_bounds-result-start c =
    let s =
    span _ _ _ _ c.args.c _ _ _ c.self.view_is c.self.invariant c.requires c.get-place.ensures.place c.deref.ensures.value
    c.start_of-start.ensures.first c.start_of-start.ensures.later c.index.ensures in
    s.rising

pub slice_bounds-result-end : goal.slice_bounds-result-end
slice_bounds-result-end c =
    let s =
    span _ _ _ _ c.args.c _ _ _ c.self.view_is c.self.invariant c.requires c.get-place.ensures.place c.deref.ensures.value
    c.start_of-start.ensures.first c.start_of-start.ensures.later c.index.ensures in
    omega (arith, s.within, ap length c.deref-2.ensures.value)

pub returns-clause-clause : goal.returns-clause-clause
returns-clause-clause c =
    let s =
    span _ _ _ _ c.args.c _ _ _ c.self.view_is c.self.invariant c.requires c.get-place.ensures.place c.deref.ensures.value
    c.start_of-start.ensures.first c.start_of-start.ensures.later c.index.ensures in
    rw c.deref-2.ensures.value s.is

pub returns-clause-once : goal.returns-clause-once
returns-clause-once c =
    let s =
    span _ _ _ _ c.args.c _ _ _ c.self.view_is c.self.invariant c.requires c.get-place.ensures.place c.deref.ensures.value
    c.start_of-start.ensures.first c.start_of-start.ensures.later c.index.ensures in
    rw c.deref-2.ensures.value s.once
