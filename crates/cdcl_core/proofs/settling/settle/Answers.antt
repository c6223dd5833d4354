use Rattle.std.proofs.Common.{◌≡◌, ◌∙◌, sym, ap, subst, ℕ, Bool, List, Some}
use Rattle.std.proofs.lemmas.Option.{get_or_from_slice_get, slice_get_within}
use Rattle.neg_cycle.specs.declared.system.Edge.{Edge}
use Rattle.neg_cycle.specs.Systems.{IsEdge}
use Rattle.axiom_rules.specs.declared.literal.Atom.{Atom}
use Rattle.std.specs.Prelude.{All}
use Rattle.clause_db.specs.declared.lit.Lit.{Lit}
use Rattle.clause_db.specs.Literals.{negation}
use Rattle.propagate.specs.Links.{edge_in as sensed_edge}
use Rattle.axiom_rules.specs.declared.literal.Atom.TheVariants.{First}
use Rattle.axiom_rules.specs.Atoms.{IsVar}
use Rattle.cdcl_core.specs.Orders.{IsOrderAmong, atom_at, order_edges}
use Rattle.cdcl_core.proofs.Starts.{edges_fit}
use Rattle.cdcl_core.proofs.settling.settle.Goals as goal

-- the edge of an order atom in a sense
fits : (nodes : ℕ) (atoms : List Atom) (v : ℕ) (a : Atom) (b : Bool) (e : Edge) → All (IsOrderAmong nodes) atoms → IsVar atoms v a → Some e ≡ sensed_edge (order_edges a) b → IsEdge nodes e
fits nodes atoms v a b e among here is =
    let order = subst (IsOrderAmong nodes) (get_or_from_slice_get atoms v a a here) (among v a (slice_get_within atoms v a here)) in
    rw (← is) at (edges_fit nodes a b order)

pub refuses-requires-clause-edge : goal.refuses-requires-clause-edge
refuses-requires-clause-edge c =
    fits c.args.ground.now.nodes c.args.theory.now.atoms c.var.result c.atom.result c.positive.result c.in-Some-edge_of.edge c.requires.among c.atom.ensures.atom
    (sym c.in-Some-edge_of.is ∙ c.edge_of.ensures.edge)

pub record-requires-clause-refused : goal.record-requires-clause-refused
record-requires-clause-refused c =
    let edge = c.in-Some-edge_of.edge in
    let atoms = c.args.theory.now.atoms in
    let here = c.atom.ensures.atom in
    let atom : c.atom.result ≡ atom_at atoms c.in-Some.lit.var = sym (get_or_from_slice_get atoms c.var.result c.atom.result (First 0) here) ∙ ap (atom_at atoms) c.var.ensures.variable in
    let sense : c.positive.result ≡ (negation c.in-Some.lit).positive = c.positive.ensures.sense ∙ ap (λ (l : Lit). l.positive) c.negated.ensures.other in
    let literal : sensed_edge (order_edges c.atom.result) c.positive.result ≡ Some edge = sym c.edge_of.ensures.edge ∙ c.in-Some-edge_of.is in
    let is_edge : IsEdge c.args.ground.now.nodes edge = fits c.args.ground.now.nodes atoms c.var.result c.atom.result c.positive.result edge c.requires.among here (sym literal) in
    (edge, rw (atom, sense) at literal, rw c.refuses.ensures.limits.nodes is_edge, rw c.refuses.ensures.edges (c.in_ok-refuses.ensures.cycle c.if-not-branch.false), rw c.refuses.ensures.edges (c.in_ok-refuses.ensures.once c.if-not-branch.false))

pub returns-clause-settled : goal.returns-clause-settled
returns-clause-settled c = rw c.refuses.ensures.edges at c.record.ensures.settled
