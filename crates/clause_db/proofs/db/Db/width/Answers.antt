use Rattle.std.proofs.Common.{arith}
use Rattle.hint_refutation.proofs.Pieces.{held_end}
use Rattle.clause_db.proofs.FlatLemmas.{span, span_length}
use Rattle.clause_db.proofs.db.Db.width.Goals as goal

pub start_of-start-requires : goal.start_of-start-requires
start_of-start-requires c =
    let held = held_end c.self.inside.lits.items c.self.inside.ends.items _ c.args.c c.self.view_is c.requires in
    rw c.deref.ensures.value (omega (arith, c.get-place.ensures.place, held))

pub index-requires : goal.index-requires
index-requires c =
    let held = held_end c.self.inside.lits.items c.self.inside.ends.items _ c.args.c c.self.view_is c.requires in
    omega (arith, c.get-place.ensures.place, held, c.self.inside.ends.ok.0)

pub overflow_sub-result : goal.overflow_sub-result
overflow_sub-result c =
    let s =
    span _ _ _ _ c.args.c _ _ _ c.self.view_is c.self.invariant c.requires c.get-place.ensures.place c.deref.ensures.value
    c.start_of-start.ensures.first c.start_of-start.ensures.later c.index.ensures in
    s.rising

pub returns : goal.returns
returns c =
    let s =
    span _ _ _ _ c.args.c _ _ _ c.self.view_is c.self.invariant c.requires c.get-place.ensures.place c.deref.ensures.value
    c.start_of-start.ensures.first c.start_of-start.ensures.later c.index.ensures in
    record { width = span_length _ _ _ _ _ s }
