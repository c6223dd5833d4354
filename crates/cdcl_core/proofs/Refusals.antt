-- What adding the clause of a refused edge's walk asks for, and what it gives.
use Rattle.std.proofs.Common.{◌≡◌, ◌∙◌, sym, ap, refl, subst, ℕ, ◌+◌, ◌-◌, ◌<◌, inl, inr, Bool, true, false, List, [], ◌∷◌, ◌++◌, length, Option, Some, None, arith}
use Rattle.std.specs.Prelude.{IsSome, is_some, slice_index_or, All}
use Rattle.std.proofs.lemmas.Bool.{cases_lt}
use Rattle.std.proofs.lemmas.List.{get_or_past, length-append}
use Rattle.std.proofs.lemmas.List.Elements.{All-weaker, All-get_or, filter_passes}
use Rattle.neg_cycle.specs.declared.system.Edge.{Edge}
use Rattle.neg_cycle.specs.declared.system.TheConstants.{MAX_NODES}
use Rattle.neg_cycle.specs.Systems.{IsClosedWalk}
use Rattle.neg_cycle.proofs.LawLemmas.{excludes_cycles}
use Rattle.difference_graph.specs.Graphs.{Constraints, IsSolved}
use Rattle.skew_bounds.proofs.Settled.{places-of-cycle}
use Rattle.clause_db.specs.declared.lit.Lit.{Lit}
use Rattle.clause_db.specs.Literals.{HasVarsOnce}
use Rattle.propagate.specs.Links.{edges_at, edges_of}
use Rattle.propagate.specs.Trails.{Assigned, literals}
use Rattle.axiom_rules.specs.declared.literal.Atom.{Atom}
use Rattle.axiom_rules.specs.declared.literal.Atom.TheVariants.{Order, Node, First, Same, Wit, Span, Gap}
use Rattle.cdcl_core.specs.Orders.{AreLinks, IsOrderAmong, atom_at, linked, order_edges, sensed_step}
use Rattle.cdcl_core.specs.Running.{IsConflicted, IsStuck}
use Rattle.cdcl_core.specs.Walking.{AreOrders, IsHeldOrder, denied_in}
use Rattle.cdcl_core.proofs.Cycles.{order_count}
use Rattle.cdcl_core.proofs.Pairs.{atom_there}
use Rattle.cdcl_core.proofs.Stuck.{denied_all, denied_once, orders_once, places_apart, stuck_conflicted, whole_edges}

linked_within : (links : List (Option (Edge × Edge))) (v : ℕ) → is_some (edges_at links v) ≡ true → v < length links
linked_within links v some = elim (cases_lt v (length links)) [
  | inl low ↦ low
  | inr past ↦ let none : false ≡ true = sym (ap is_some (get_or_past links v _ past)) ∙ some in absurd (cc)
]

-- what there is
some_is : {X : Type 0} (o : Option X) → is_some o ≡ true → (x : X) × (o ≡ Some x)
some_is (Some x) some = (x, refl)
some_is None some = absurd (cc)

-- an atom with edges has a step, whatever the sense
has_step : (a : Atom) (b : Bool) → is_some (order_edges a) ≡ true → IsSome (sensed_step b a)
has_step (Order e f c) true some = refl
has_step (Order e f c) false some = refl
has_step (Node k e) b some = absurd (cc)
has_step (First e) b some = absurd (cc)
has_step (Same e x) b some = absurd (cc)
has_step (Wit k i j) b some = absurd (cc)
has_step (Span k i j) b some = absurd (cc)
has_step (Gap k i m) b some = absurd (cc)

-- literals with an edge are those of order atoms
pub are_orders : (atoms : List Atom) (links : List (Option (Edge × Edge))) (lits : List Lit) → AreLinks atoms links → All (IsOrderAmong MAX_NODES) atoms → AreOrders atoms (linked links lits)
are_orders atoms links lits are among =
    All-weaker (λ (l : Lit). is_some (edges_at links l.var) ≡ true) (IsHeldOrder atoms) (λ l some.
    let both = some_is (edges_at links l.var) some in
    let within : l.var < length atoms = let low = linked_within links l.var some in let count = are.count in omega (arith, low, count) in
    record {
      within = within;
      among = among l.var (First 0) within;
      steps = has_step (atom_at atoms l.var) l.positive (ap is_some (are.each l.var (atom_at atoms l.var) both.0 (atom_there atoms l.var within) both.1));
    })
    (linked links lits) (filter_passes (λ (l : Lit). is_some (edges_at links l.var)) lits)

-- a stuck run over a base of so many edges
module _ (atoms : List Atom) (db : List (List Lit)) (links : List (Option (Edge × Edge))) (base : List Edge) (many : ℕ) (t : Assigned) (g : Constraints) (l : Lit) (stuck : IsStuck db links base t g l)
    (count : length base ≡ many) where
  abbrev orders : List Lit
  orders = linked links (literals t.entries)

  abbrev clause : List Lit
  clause = denied_in many orders g.cycle

  -- the places of the walk are those of the base and of the literals that have edges
  pub walk_within : All (λ p. p < many + length orders) g.cycle
  walk_within =
      let whole = whole_edges db links base t g l stuck in
      let closed : IsClosedWalk (base ++ edges_of links (literals t.entries)) g.cycle = subst (λ es. IsClosedWalk es g.cycle) whole stuck.refused.cycle.closed in
      let size = length-append base (edges_of links (literals t.entries)) in
      let edges = order_count links (literals t.entries) in
      let same : length (base ++ edges_of links (literals t.entries)) ≡ many + length orders = omega (arith, size, edges, count) in
      rw same at (places-of-cycle (base ++ edges_of links (literals t.entries)) g.cycle closed)

  pub clause_once : HasVarsOnce clause
  clause_once = denied_once many orders g.cycle walk_within (places_apart (g.edges ++ stuck.refused.edge ∷ []) g.cycle stuck.refused.once) (orders_once t links stuck.trail)

  clause_vars : AreLinks atoms links → All (IsOrderAmong MAX_NODES) atoms → t.vars ≡ length atoms → All (λ m. m.var < t.vars) clause
  clause_vars are among vars = denied_all many orders (λ (m : Lit). m.var < t.vars) g.cycle (λ k d below ge.
      let q_in = walk_within k d below in
      let held =
      All-get_or (IsHeldOrder atoms) orders (slice_index_or g.cycle k d - many) (record { var = 0; positive = false }) (omega (arith, q_in, ge))
      (are_orders atoms links (literals t.entries) are among) in
      let low = held.within in
      omega (arith, low, vars))

  -- with the clause there is a conflict
  pub clause_conflicted : AreLinks atoms links → All (IsOrderAmong MAX_NODES) atoms → t.vars ≡ length atoms → IsSolved g → IsConflicted (db ++ clause ∷ []) links base t g (length db)
  clause_conflicted are among vars solved =
      let own : All (λ m. m.var < t.vars) (denied_in (length base) orders g.cycle) = rw count (clause_vars are among vars) in
      let within : All (λ p. p < length base + length orders) g.cycle = rw count walk_within in
      subst (λ n. IsConflicted (db ++ denied_in n orders g.cycle ∷ []) links base t g (length db)) count (stuck_conflicted db links base t g l stuck excludes_cycles solved within own)
