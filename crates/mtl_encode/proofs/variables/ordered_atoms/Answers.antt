use Rattle.std.proofs.Common.{◌∙◌}
use Rattle.mtl_encode.proofs.OrderLemmas.{taken-moved, taken-only}
use Rattle.mtl_encode.proofs.variables.ordered_atoms.Goals as goal

pub returns-clause-only : goal.returns-clause-only
returns-clause-only c = taken-only c.args.atoms.now c.in_ok-taken.taken c.in_ok-order.order.items c.in_ok-order.ensures (rw c.deref-2.ensures.value at c.in_ok-taken.ensures.atoms)

pub returns-clause-places : goal.returns-clause-places
returns-clause-places c =
    taken-moved c.args.atoms.now c.in_ok-taken.taken c.in_ok-order.order.items c.in_ok-places.places.items c.in_ok-order.ensures
    (rw c.deref.ensures.value at c.in_ok-places.ensures) (rw c.deref-2.ensures.value at c.in_ok-taken.ensures.atoms)

pub returns-clause-count : goal.returns-clause-count
returns-clause-count c =
    let taken = rw c.deref-2.ensures.value at c.in_ok-taken.ensures.atoms in
    taken.count ∙ c.in_ok-order.ensures.count
