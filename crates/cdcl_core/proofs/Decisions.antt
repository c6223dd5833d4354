-- What is decided, and what values satisfy.
use Rattle.std.proofs.Common.{◌≡◌, ◌↔◌, ◌∙◌, ap, subst, ℕ, ◌+◌, ◌<◌, inl, inr, List, [], ◌∷◌, ◌++◌, length, map, Bool, false, Option, None, arith, ℤ, ◌-ℤ◌, ◌≤ℤ◌}
use Rattle.std.specs.Prelude.{IfSome, IsTrue, int_le}
use Rattle.std.proofs.lemmas.Int.{ints}
use Rattle.std.proofs.lemmas.List.{get_or-map, get_or_append_left, get_or_push}
use Rattle.std.proofs.lemmas.Option.{get_or_from_slice_get, slice_get_within}
use Rattle.neg_cycle.specs.declared.system.Edge.{Edge}
use Rattle.neg_cycle.specs.Systems.{Meets, number_of}
use Rattle.difference_graph.specs.Graphs.{Constraints, IsSolved}
use Rattle.clause_db.specs.declared.lit.Lit.{Lit}
use Rattle.propagate.specs.Links.{edges_at}
use Rattle.propagate.specs.Trails.{Assigned, IsUnassigned}
use Rattle.propagate.specs.Clauses.{AreSettled}
use Rattle.axiom_rules.specs.declared.literal.Atom.{Atom}
use Rattle.axiom_rules.specs.declared.literal.Atom.TheVariants.{Order, First}
use Rattle.axiom_rules.specs.Atoms.{IsVar}
use Rattle.mtl_encode.specs.Models.{value_at}
use Rattle.cdcl_core.specs.Assignments.{AreOrderValues, AreValues, IsSatisfying}
use Rattle.cdcl_core.specs.Orders.{HasAllLinks, order_edges}
use Rattle.cdcl_core.specs.Running.{IsRunning}
use Rattle.cdcl_core.proofs.Models.{model_clauses, model_orders}
use Rattle.cdcl_core.proofs.Scanned.{below_or_last}

-- true exactly where one number is at most another is whether it is
le_value : (b : Bool) (x c : ℤ) → (IsTrue b ↔ (x ≤ℤ c)) → b ≡ int_le x c
le_value b x c is = grind (arith, ints)

-- values of orders by the numbers are those that order atoms have by them
pub orders_by_links : (atoms : List Atom) (links : List (Option (Edge × Edge))) (numbers : List ℤ) (values : List Bool) → HasAllLinks atoms links → AreOrderValues links numbers values
    → (v e f : ℕ) (c : ℤ) → IsVar atoms v (Order e f c) → value_at values v ≡ int_le (number_of numbers (e + 1) -ℤ number_of numbers (f + 1)) c
orders_by_links atoms links numbers values linked are v e f c is =
    let edges : edges_at links v ≡ order_edges (Order e f c) = linked v (Order e f c) is in
    let here = subst (λ o. IfSome o (λ both. IsTrue (value_at values v) ↔ Meets numbers both.0)) edges (are v) in
    le_value (value_at values v) (number_of numbers (e + 1) -ℤ number_of numbers (f + 1)) c here

-- the edges of the atoms, read as links
pub edges_read : (atoms : List Atom) → HasAllLinks atoms (map order_edges atoms)
edges_read atoms v a is =
    get_or-map order_edges atoms v (First 0) None (slice_get_within atoms v a is) ∙ ap order_edges (get_or_from_slice_get atoms v a (First 0) is)

-- where each variable is assigned and nothing is left to propagate, the values of the variables satisfy all clauses
pub whole_satisfies : (atoms : List Atom) (vars : ℕ) (db : List (List Lit)) (links : List (Option (Edge × Edge))) (t : Assigned) (g : Constraints) (values : List Bool)
    → IsRunning vars db links t g → length atoms ≡ vars → HasAllLinks atoms links
    → AreSettled t.entries db → ((v : ℕ) → v < vars → IsUnassigned t.entries v → ⊥) → IsSolved g → AreValues t values → IsSatisfying atoms db g.numbers values
whole_satisfies atoms vars db links t g values running count linked settled whole solved are =
    let same : t.vars ≡ length atoms = let assigned = running.vars in omega (arith, assigned, count) in
    let all : (v : ℕ) → v < t.vars → IsUnassigned t.entries v → ⊥ = λ v low free. let assigned = running.vars in whole v (omega (arith, low, assigned)) free in
    record {
      count = are.count ∙ same;
      clauses = model_clauses t values are all db running.run.step.reasons.variables settled;
      orders = model_orders t values are all db atoms links running.base g same linked running.run.step solved;
    }

-- one more value of a variable
pub order_values_next : (links : List (Option (Edge × Edge))) (numbers : List ℤ) (values : List Bool) (v : ℕ) (b : Bool) → length values ≡ v
    → ((w : ℕ) → w < v → IfSome (edges_at links w) (λ both. IsTrue (value_at values w) ↔ Meets numbers both.0)) → IfSome (edges_at links v) (λ both. IsTrue b ↔ Meets numbers both.0)
    → (w : ℕ) → w < v + 1 → IfSome (edges_at links w) (λ both. IsTrue (value_at (values ++ b ∷ []) w) ↔ Meets numbers both.0)
order_values_next links numbers values v b count old here w low = elim (below_or_last w v low) [
  | inl less ↦ rw (get_or_append_left values (b ∷ []) false w (omega (arith, less, count))) (old w less)
  | inr is ↦ rw is (rw (get_or_push values b false v count) here)
]
