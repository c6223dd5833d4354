use Rattle.std.proofs.Common.{refl, arith}
use Rattle.propagate.proofs.StoredLemmas.{stored_propagated}
use Rattle.propagate.proofs.TableLemmas.{unpropagated}
use Rattle.propagate.proofs.trail.Trail.rewind.Goals as goal

pub invariant_of-self : goal.invariant_of-self
invariant_of-self c = record {
  stored =
      let inside = c.self.inside in
      stored_propagated inside.entries.items inside.places.items inside.levels.items _ _ _ _ c.self.invariant.stored c.lesser-self-inside.result
      (omega (arith, c.lesser-self-inside.ensures.lesser, c.self.invariant.stored.trail.propagated));
  valued = c.self.invariant.valued;
}

pub returns-clause-trail : goal.returns-clause-trail
returns-clause-trail c = rw (← c.self.view_is) refl

pub returns-clause-unpropagated : goal.returns-clause-unpropagated
returns-clause-unpropagated c = λ k less.
    let inside = c.self.inside in
    let start = rw c.deref.ensures.value at c.present_start.ensures in
    unpropagated inside.entries.items inside.levels.items inside.head _ k c.self.invariant.stored.trail.levels
    c.self.invariant.stored.trail.propagated start.lowest start.above (rw c.lesser-self-inside.ensures.lesser at less)

pub returns-clause-fewer : goal.returns-clause-fewer
returns-clause-fewer c = rw (← c.self.view_is) (omega (arith, c.lesser-self-inside.ensures.lesser))

pub returns-clause-after : goal.returns-clause-after
returns-clause-after c = (invariant_of-self c).stored.trail
