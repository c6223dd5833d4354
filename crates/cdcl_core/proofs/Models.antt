-- A whole assignment under which nothing is left to propagate is a model.
use Rattle.std.proofs.Common.{◌≡◌, ◌≢◌, ◌⊎◌, ◌∙◌, sym, ap, refl, subst, ℕ, suc, ◌+◌, ◌<◌, inl, inr, Bool, true, false, List, [], ◌∷◌, ◌++◌, length, Option, Some, arith, ℤ, pos, ◌-ℤ◌, ◌≤ℤ◌, neg_ℤ}
use Rattle.std.specs.Prelude.{int_le, All}
use Rattle.std.specs.List.{Contains, list_any}
use Rattle.std.proofs.lemmas.Bool.{cases_eq}
use Rattle.std.proofs.lemmas.Int.{ints}
use Rattle.std.proofs.lemmas.List.Elements.{All-nil, All-cons, All-contains, All-get_or}
use Rattle.hint_refutation.proofs.Lists.{any_found, contains_later, any_true, given_stands}
use Rattle.std.proofs.lemmas.Option.{slice_get_within}
use Rattle.hint_refutation.specs.Propagation.{IsSettled}
use Rattle.neg_cycle.specs.declared.system.Edge.{Edge}
use Rattle.neg_cycle.specs.Systems.{Meets, number_of}
use Rattle.difference_graph.specs.Graphs.{Constraints, IsSolved}
use Rattle.clause_db.specs.declared.lit.Lit.{Lit}
use Rattle.clause_db.specs.Literals.{negation, value_of}
use Rattle.clause_db.proofs.LawLemmas.{negation_other}
use Rattle.propagate.specs.declared.entry.Entry.{Entry}
use Rattle.propagate.specs.Links.{edge_in as sensed_edge, edge_of, edges_at, edges_of}
use Rattle.propagate.specs.Trails.{Assigned, no_entry, entry_at, literals, IsUnassigned}
use Rattle.propagate.specs.Clauses.{AreSettled}
use Rattle.propagate.specs.Steps.{InStep}
use Rattle.propagate.proofs.ClauseLemmas.{literal_at, literal_held}
use Rattle.axiom_rules.specs.declared.literal.Atom.{Atom}
use Rattle.axiom_rules.specs.declared.literal.Atom.TheVariants.{Order}
use Rattle.axiom_rules.specs.Atoms.{IsVar}
use Rattle.mtl_encode.specs.Models.{value_at}
use Rattle.cdcl_core.specs.Assignments.{AreValues}
use Rattle.cdcl_core.specs.Orders.{HasAllLinks, order_edges}
use Rattle.axiom_rules.proofs.RulesHold.{of-sense}

contains_right : {X : Type 0} (xs ys : List X) (y : X) → Contains ys y → Contains (xs ++ ys) y
contains_right [] ys y has = has
contains_right (x ∷ xs) ys y has = contains_later x y (xs ++ ys) (contains_right xs ys y has)

le_is : (a b c : ℤ) → (a -ℤ b) ≤ℤ c → int_le (a -ℤ b) c ≡ true
le_is a b c le = grind (arith, ints)

le_is_not : (a b c : ℤ) → (b -ℤ a) ≤ℤ (neg_ℤ c -ℤ pos 1) → int_le (a -ℤ b) c ≡ false
le_is_not a b c le = grind (arith, ints)

module _ (t : Assigned) (values : List Bool) (are : AreValues t values) where
  -- a literal of the trail is true
  held_true : (l : Lit) → Contains (literals t.entries) l → value_of (value_at values) l ≡ true
  held_true l has =
      let at = literal_at t.entries l has in
      let sense = All-get_or (λ (e : Entry). value_at values e.lit.var ≡ e.lit.positive) t.entries has.0 no_entry at.0 are.sense in
      of-sense l.positive (value_at values l.var) (subst (λ (x : Lit). value_at values x.var ≡ x.positive) at.1 sense)

  module _ (whole : (v : ℕ) → v < t.vars → IsUnassigned t.entries v → ⊥) where
    -- a variable has a literal on the trail
    pub assigned_at : (v : ℕ) → v < t.vars → (k : ℕ) × (k < length t.entries) × ((entry_at t.entries k).lit.var ≡ v)
    assigned_at v low = elim (find_in t.entries) [ inl found ↦ found | inr free ↦ absurd (whole v low free) ] where
      find_in : (es : List Entry) → ((k : ℕ) × (k < length es) × ((entry_at es k).lit.var ≡ v)) ⊎ IsUnassigned es v
      find_in [] = inr (All-nil (λ (e : Entry). e.lit.var ≢ v))
      find_in (e ∷ es) = elim (cases_eq e.lit.var v) [
        | inl is ↦ inl (0, omega arith, is)
        | inr other ↦ elim (find_in es) [
          | inl (k, below, is) ↦ inl (suc k, omega (arith, below), is)
          | inr free ↦ inr (All-cons (λ (x : Entry). x.lit.var ≢ v) e es other free)
        ]
      ]

    settled_true : (clause : List Lit) → All (λ l. l.var < t.vars) clause → IsSettled negation (literals t.entries) clause → list_any (value_of (value_at values)) clause ≡ true
    settled_true clause vars (inl true_) =
        let (l, has, held) = any_found (Contains (literals t.entries)) clause true_ in
        any_true (value_of (value_at values)) clause l has (held_true l held)
    settled_true clause vars (inr two) =
        let (k, within, var) = assigned_at two.one.var (All-contains (λ (l : Lit). l.var < t.vars) clause two.one vars two.has_one) in
        let held = literal_held t.entries k (entry_at t.entries k).lit within refl in
        elim (negation_other.only (entry_at t.entries k).lit two.one var) [
          | inl same ↦ any_true (value_of (value_at values)) clause two.one two.has_one (held_true two.one (subst (λ (x : Lit). Contains (literals t.entries) x) same held))
          | inr other ↦ absurd (two.one_open (subst (λ (x : Lit). Contains (literals t.entries) x) other held))
        ]

    -- each clause has a literal that is true
    pub model_clauses : (db : List (List Lit)) → All (All (λ l. l.var < t.vars)) db → AreSettled t.entries db → All (λ lits. list_any (value_of (value_at values)) lits ≡ true) db
    model_clauses db vars settled = λ c d below. settled_true _ (vars c d below) (settled c d below)

    module _ (db : List (List Lit)) (atoms : List Atom) (links : List (Option (Edge × Edge))) (base : List Edge) (g : Constraints) (count : t.vars ≡ length atoms) (linked : HasAllLinks atoms links)
        (step : InStep t db links base g) (solved : IsSolved g) where
      -- the edge of a literal of the trail is met
      met : (l : Lit) (x : Edge) → Contains (literals t.entries) l → edge_of links l ≡ Some x → Meets g.numbers x
      met l x has is =
          let there : Contains (edges_of links (literals t.entries)) x = given_stands (edge_of links) (literals t.entries) l x has is in
          All-contains (Meets g.numbers) g.edges x solved.potential.meets (rw step.edges (contains_right base (edges_of links (literals t.entries)) x there))

      -- an order atom has the value that the numbers give it
      pub model_orders : (v e f : ℕ) (c : ℤ) → IsVar atoms v (Order e f c) → value_at values v ≡ int_le (number_of g.numbers (e + 1) -ℤ number_of g.numbers (f + 1)) c
      model_orders v e f c is =
          let low = slice_get_within atoms v (Order e f c) is in
          let (k, within, var) = assigned_at v (omega (arith, low, count)) in
          let l = (entry_at t.entries k).lit in
          let held = literal_held t.entries k l within refl in
          let sense = All-get_or (λ (x : Entry). value_at values x.lit.var ≡ x.lit.positive) t.entries k no_entry within are.sense in
          let edges : edges_at links l.var ≡ order_edges (Order e f c) = ap (edges_at links) var ∙ linked v (Order e f c) is in
          sym (ap (value_at values) var) ∙ sense ∙ go l.positive (λ x at. met l x held (ap (λ o. sensed_edge o l.positive) edges ∙ at))
        where
          go : (b : Bool) → ((x : Edge) → sensed_edge (order_edges (Order e f c)) b ≡ Some x → Meets g.numbers x) → b ≡ int_le (number_of g.numbers (e + 1) -ℤ number_of g.numbers (f + 1)) c
          go true meets = let at_most = meets (record { from = e + 1; to = f + 1; bound = c }) refl in sym (le_is (number_of g.numbers (e + 1)) (number_of g.numbers (f + 1)) c at_most)
          go false meets = let above = meets (record { from = f + 1; to = e + 1; bound = neg_ℤ c -ℤ pos 1 }) refl in sym (le_is_not (number_of g.numbers (e + 1)) (number_of g.numbers (f + 1)) c above)
