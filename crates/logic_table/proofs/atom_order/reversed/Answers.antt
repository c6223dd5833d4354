use Rattle.std.proofs.Common.{refl, length}
use Rattle.axiom_rules.specs.AtomIndex.{AreTaken}
use Rattle.cdcl_core.proofs.Starts.{fits_within}
use Rattle.logic_table.specs.AtomOrders.{AreLastFirst}
use Rattle.logic_table.proofs.ReversedAtoms.{last_first_pairs, last_first_reversed, reversed_posed}
use Rattle.logic_table.proofs.atom_order.reversed.Goals as goal

pub taken-requires-clause-apart : goal.taken-requires-clause-apart
taken-requires-clause-apart c = rw (c.deref-2.ensures.value, c.in_ok-vars.ensures, c.deref.ensures.value) (last_first_pairs c.len.result c.in_ok-places.places.items c.in_ok-places.ensures)

pub renamed-requires-clause-below : goal.renamed-requires-clause-below
renamed-requires-clause-below c = rw (c.deref-3.ensures.value, c.in_ok-places.ensures.count_is, c.len.ensures.atoms) (fits_within _ c.args.problem c.requires.posed.fits)

pub returns-clause-posed : goal.returns-clause-posed
returns-clause-posed c =
    let p = c.args.problem in
    let places = c.in_ok-places.places.items in
    let are : AreLastFirst (length p.atoms) places = rw c.len.ensures.atoms at c.in_ok-places.ensures in
    let taken : AreTaken p.atoms places c.in_ok-atoms.atoms = rw (c.deref-2.ensures.value, c.in_ok-vars.ensures, c.deref.ensures.value) at c.in_ok-atoms.ensures.atoms in
    reversed_posed p
    (record { db = c.renamed.result; rules = p.rules; atoms = c.in_ok-atoms.atoms; bounds = p.bounds; edges = p.edges; nodes = p.nodes }) places are taken
    (rw c.deref-3.ensures.value at c.renamed.ensures.clauses) refl refl refl refl
    c.requires.posed

pub returns-clause-reversed : goal.returns-clause-reversed
returns-clause-reversed c =
    let p = c.args.problem in
    let places = c.in_ok-places.places.items in
    let are : AreLastFirst (length p.atoms) places = rw c.len.ensures.atoms at c.in_ok-places.ensures in
    let taken : AreTaken p.atoms places c.in_ok-atoms.atoms = rw (c.deref-2.ensures.value, c.in_ok-vars.ensures, c.deref.ensures.value) at c.in_ok-atoms.ensures.atoms in
    last_first_reversed p.atoms c.in_ok-atoms.atoms places are taken
