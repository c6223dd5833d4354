use Rattle.std.proofs.Common.{refl}
use Rattle.mtl_encode.proofs.VariableLemmas.{clauses-below, clauses-moved, places-apart}
use Rattle.mtl_encode.proofs.clauses.Clauses.in_order.Goals as goal

pub renamed-db-requires-clause-below : goal.renamed-db-requires-clause-below
renamed-db-requires-clause-below c = rw (c.deref.ensures.value, c.in_ok-ordered.ensures.places.count) (clauses-below c.args.rules.now c.args.self c.requires.clauses)

pub renamed-db-requires-clause-apart : goal.renamed-db-requires-clause-apart
renamed-db-requires-clause-apart c =
    rw c.deref.ensures.value (places-apart c.args.self.atoms c.in_ok-ordered.ordered.atoms c.in_ok-ordered.ordered.places.items c.in_ok-ordered.ensures.places c.len.ensures.once)

pub returns-clause-clauses : goal.returns-clause-clauses
returns-clause-clauses c =
    clauses-moved c.args.rules.now c.args.self (record { db = c.renamed-db.result; rules = c.args.self.rules; atoms = c.in_ok-ordered.ordered.atoms }) c.in_ok-ordered.ordered.places.items
    c.requires.clauses c.len-2.ensures.once c.in_ok-ordered.ensures.places c.in_ok-ordered.ensures.only (rw c.deref.ensures.value at c.renamed-db.ensures.clauses) refl
