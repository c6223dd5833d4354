use Rattle.std.proofs.Common.{length, arith, ap}
use Rattle.hint_refutation.proofs.Pieces.{held_end, span}
use Rattle.proof_check.specs.Keeping.{Kept}
use Rattle.proof_check.proofs.kept.Clauses.at.Goals as goal

pub start_of-start-requires : goal.start_of-start-requires
start_of-start-requires c =
    let held = held_end c.self.inside.literals.items c.self.inside.ends.items _ c.args.place (ap (λ (k : Kept). k.closed) c.self.view_is) c.requires in
    rw c.deref.ensures.value (omega (arith, held))

pub index-requires : goal.index-requires
index-requires c =
    let held = held_end c.self.inside.literals.items c.self.inside.ends.items _ c.args.place (ap (λ (k : Kept). k.closed) c.self.view_is) c.requires in
    omega (arith, held, c.self.inside.ends.ok.0)

pub offset_bounds-deref-start : goal.offset_bounds-deref-start
offset_bounds-deref-start c =
    let s =
    span _ _ _ _ c.args.place _ _
    (ap (λ (k : Kept). k.closed) c.self.view_is) c.self.invariant c.requires c.deref.ensures.value c.start_of-start.ensures.first c.start_of-start.ensures.later c.index.ensures in
    omega (arith, s.rising, s.within, c.deref-2.type_inv.1, ap length c.deref-2.ensures.value)

pub slice_bounds-result-count : goal.slice_bounds-result-count
slice_bounds-result-count c =
    let s =
    span _ _ _ _ c.args.place _ _
    (ap (λ (k : Kept). k.closed) c.self.view_is) c.self.invariant c.requires c.deref.ensures.value c.start_of-start.ensures.first c.start_of-start.ensures.later c.index.ensures in
    s.rising

pub slice_bounds-result-start : goal.slice_bounds-result-start
slice_bounds-result-start c =
    let s =
    span _ _ _ _ c.args.place _ _
    (ap (λ (k : Kept). k.closed) c.self.view_is) c.self.invariant c.requires c.deref.ensures.value c.start_of-start.ensures.first c.start_of-start.ensures.later c.index.ensures in
    s.rising

pub slice_bounds-result-end : goal.slice_bounds-result-end
slice_bounds-result-end c =
    let s =
    span _ _ _ _ c.args.place _ _
    (ap (λ (k : Kept). k.closed) c.self.view_is) c.self.invariant c.requires c.deref.ensures.value c.start_of-start.ensures.first c.start_of-start.ensures.later c.index.ensures in
    omega (arith, s.within, ap length c.deref-2.ensures.value)

pub returns : goal.returns
returns c =
    let s =
    span _ _ _ _ c.args.place _ _
    (ap (λ (k : Kept). k.closed) c.self.view_is) c.self.invariant c.requires c.deref.ensures.value c.start_of-start.ensures.first c.start_of-start.ensures.later c.index.ensures in
    record { clause = rw c.deref-2.ensures.value s.is }
