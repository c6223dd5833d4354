-- What a walk of negative sum over the edges of bounds and of order literals is for the log: a conflict, and the clause that
-- not all of its order literals hold.
use Rattle.std.proofs.Common.{◌≡◌, ◌≢◌, ◌∙◌, sym, ap, refl, subst, ℕ, suc, ◌+◌, ◌-◌, ◌<◌, ◌⊎◌, inl, inr, Bool, true, false, List, [], ◌∷◌, ◌++◌, length, map, Option, Some, None, arith, ℤ, pos, ◌-ℤ◌, neg_ℤ}
use Rattle.std.specs.Prelude.{is_some, nat_lt, All}
use Rattle.std.specs.List.{Contains}
use Rattle.std.proofs.lemmas.Bool.{cases_eq, cases_lt, le-ltb, lt-ltb}
use Rattle.std.proofs.lemmas.Bool.Decides.{nat_tests}
use Rattle.std.proofs.lemmas.Int.{ints}
use Rattle.std.proofs.lemmas.List.{get_or_append_left, get_or-append_right, length-append, length-map, length_push}
use Rattle.std.proofs.lemmas.List.Elements.{All-nil, All-cons, All-head, All-tail}
use Rattle.mt_model.specs.declared.bound.Bound.{Bound}
use Rattle.mt_model.specs.declared.limits.TheConstants.{MAX_ORDER}
use Rattle.mt_model.specs.declared.step.Step.{Step}
use Rattle.mt_model.specs.declared.step.Step.TheVariants as step
use Rattle.mt_model.specs.Bounds.{step_of}
use Rattle.mt_model.specs.Log.{Logged, IsWithin}
use Rattle.mt_model.specs.Walks.{Conflict, HasEdges, edge_of, is_order}
use Rattle.neg_cycle.specs.declared.system.Edge.{Edge as SystemEdge}
use Rattle.neg_cycle.specs.Systems as system
use Rattle.skew_bounds.specs.Edges.{AreEdges, bound_at, edge_in}
use Rattle.clause_db.specs.declared.lit.Lit.{Lit}
use Rattle.propagate.specs.Links.{edge_in as sensed_edge, edge_of as edge_of_lit, edges_at, edges_of}
use Rattle.axiom_rules.specs.declared.literal.Atom.{Atom}
use Rattle.axiom_rules.specs.declared.literal.Atom.TheVariants.{Order, Node, First, Same, Wit, Span, Gap}
use Rattle.skew_bounds.proofs.Settled.{closed-same, edge-at, edges_at as walked, places-of-cycle, sum-same, count-edges}
use Rattle.cdcl_core.specs.Orders.{AreLinks, IsOrderAmong, atom_at, linked, order_edges, order_step, read_lit, sensed_step}
use Rattle.cdcl_core.specs.Walking.{lit_at, step_in}
use Rattle.cdcl_core.proofs.Pairs.{atom_there, paired}
use Rattle.mt_list.proofs.Lists.{parts_same}

-- what has an edge has both
edges_some : (o : Option (SystemEdge × SystemEdge)) (b : Bool) (x : SystemEdge) → sensed_edge o b ≡ Some x → (both : SystemEdge × SystemEdge) × (o ≡ Some both)
edges_some (Some both) b x is = (both, refl)
edges_some None b x is = absurd (cc)

-- the edges of literals are those of the ones that have one
sensed_some : (both : SystemEdge × SystemEdge) (b : Bool) → (x : SystemEdge) × (sensed_edge (Some both) b ≡ Some x)
sensed_some both true = (both.0, refl)
sensed_some both false = (both.1, refl)

pub linked_edges : (links : List (Option (SystemEdge × SystemEdge))) (lits : List Lit) → map (edge_of_lit links) (linked links lits) ≡ map Some (edges_of links lits)
linked_edges links [] = refl
linked_edges links (l ∷ ls) = go (edges_at links l.var) refl (linked_edges links ls) where
  go : (o : Option (SystemEdge × SystemEdge)) → edges_at links l.var ≡ o → map (edge_of_lit links) (linked links ls) ≡ map Some (edges_of links ls)
      → map (edge_of_lit links) (linked links (l ∷ ls)) ≡ map Some (edges_of links (l ∷ ls))
  go None is rest = rw is rest
  go (Some both) is rest =
      let one = sensed_some both l.positive in
      let here : edge_of_lit links l ≡ Some one.0 = ap (λ o. sensed_edge o l.positive) is ∙ one.1 in
      let passes : is_some (edges_at links l.var) ≡ true = ap is_some is in
      rw (passes, here) (ap (λ es. Some one.0 ∷ es) rest)

-- the step of an order literal has the edge of the literal
ordered : (log : Logged) (e f : ℕ) (c : ℤ) → e < length log.rows → f < length log.rows → e ≢ f → IsWithin MAX_ORDER c → is_order log e f c ≡ true
ordered log e f c low_e low_f apart bound = grind (arith, nat_tests, ints, bound.low, bound.high)

pub order_has_edge : (log : Logged) (a : Atom) (b : Bool) (s : Step) (x : SystemEdge) → IsOrderAmong (length log.rows + 1) a → sensed_edge (order_edges a) b ≡ Some x → sensed_step b a ≡ Some s
    → edge_of log s ≡ Some (edge_in x)
order_has_edge log (Order e f c) true s x among has is =
    let same : step.Order e f c ≡ s = cc in
    let edge : record { from = e + 1; to = f + 1; bound = c } ≡ x = cc in
    let first = among.smaller_first in
    let second = among.second in
    let there = ordered log e f c (omega (arith, first, second)) (omega (arith, second)) (λ is. omega (arith, first, is)) among.bound in
    let from : suc e ≡ e + 1 = omega arith in
    let to : suc f ≡ f + 1 = omega arith in
    rw (← same, ← edge, there, from, to) refl
order_has_edge log (Order e f c) false s x among has is =
    let same : step.Order f e (neg_ℤ c -ℤ pos 1) ≡ s = cc in
    let edge : record { from = f + 1; to = e + 1; bound = neg_ℤ c -ℤ pos 1 } ≡ x = cc in
    let first = among.smaller_first in
    let second = among.second in
    let there = ordered log f e (neg_ℤ c -ℤ pos 1) (omega (arith, second)) (omega (arith, first, second)) (λ is. omega (arith, first, is)) among.negated in
    let from : suc f ≡ f + 1 = omega arith in
    let to : suc e ≡ e + 1 = omega arith in
    rw (← same, ← edge, there, from, to) refl
order_has_edge log (Node k e) b s x among has is = absurd (cc)
order_has_edge log (First e) b s x among has is = absurd (cc)
order_has_edge log (Same e y) b s x among has is = absurd (cc)
order_has_edge log (Wit k i j) b s x among has is = absurd (cc)
order_has_edge log (Span k i j) b s x among has is = absurd (cc)
order_has_edge log (Gap k i m) b s x among has is = absurd (cc)

-- a walk over edges that doesn't use the last one is a walk over the others
module _ (held : List SystemEdge) (e : SystemEdge) where
  abbrev all_edges : List SystemEdge
  all_edges = held ++ e ∷ []

  edge_before : (p : ℕ) → p < length held → system.edge_at all_edges p ≡ system.edge_at held p
  edge_before p low = get_or_append_left held (e ∷ []) (record { from = 0; to = 0; bound = pos 0 }) p low

  leads_before : (a : ℕ) (places : List ℕ) (b : ℕ) → All (λ p. p < length held) places → system.LeadsTo all_edges a places b → system.LeadsTo held a places b
  leads_before a [] b low leads = leads
  leads_before a (p ∷ ps) b low leads =
      let here = All-head (λ q. q < length held) p ps low in
      let same = edge_before p here in
      (here, sym (ap (λ (x : SystemEdge). x.from) same) ∙ leads.1, leads_before (system.edge_at held p).to ps b (All-tail (λ q. q < length held) p ps low) (rw same at leads.2))

  sum_before : (places : List ℕ) → All (λ p. p < length held) places → system.sum_of_bounds all_edges places ≡ system.sum_of_bounds held places
  sum_before [] low = refl
  sum_before (p ∷ ps) low =
      let same = edge_before p (All-head (λ q. q < length held) p ps low) in
      rw (same, sum_before ps (All-tail (λ q. q < length held) p ps low)) refl

  closed_before : (places : List ℕ) → All (λ p. p < length held) places → system.IsClosedWalk all_edges places → system.IsClosedWalk held places
  closed_before [] low closed = closed
  closed_before (p ∷ ps) low closed =
      let same = edge_before p (All-head (λ q. q < length held) p ps low) in
      leads_before (system.edge_at held p).from (p ∷ ps) (system.edge_at held p).from low (subst (λ (n : ℕ). system.LeadsTo all_edges n (p ∷ ps) n) (ap (λ (x : SystemEdge). x.from) same) closed)

  -- so where the held edges have a solution, a walk of negative sum uses the last edge
  low_or_there : (n : ℕ) (places : List ℕ) → All (λ p. p < n + 1) places → All (λ p. p < n) places ⊎ Contains places n
  low_or_there n [] within = inl (All-nil (λ p. p < n))
  low_or_there n (p ∷ ps) within = elim (cases_eq p n) [
    | inl is ↦ inr (subst (λ q. Contains (p ∷ ps) q) is (0, omega arith, refl))
    | inr other ↦ elim (low_or_there n ps (All-tail (λ q. q < n + 1) p ps within)) [
      | inl low ↦ let here = All-head (λ q. q < n + 1) p ps within in inl (All-cons (λ q. q < n) p ps (omega (arith, here, other)) low)
      | inr (k, below, is) ↦ inr (suc k, omega (arith, below), is)
    ]
  ]

  pub uses_last : ((places : List ℕ) → system.IsNegativeCycle held places → ⊥) → (places : List ℕ) → system.IsNegativeCycle all_edges places → Contains places (length held)
  uses_last solved places cycle =
      let size = length_push held e in
      let within : All (λ p. p < length held + 1) places = rw size at (places-of-cycle all_edges places cycle.closed) in
      elim (low_or_there (length held) places within) [
        | inr there ↦ there
        | inl low ↦ absurd (solved places (record { closed = closed_before places low cycle.closed; negative = rw (sum_before places low) at cycle.negative }))
      ]

pub order_count : (links : List (Option (SystemEdge × SystemEdge))) (lits : List Lit) → length (linked links lits) ≡ length (edges_of links lits)
order_count links lits = sym (length-map (linked links lits) (edge_of_lit links)) ∙ ap length (linked_edges links lits) ∙ length-map (edges_of links lits) Some

-- a walk over the edges of bounds and then of order literals
module _ (log : Logged) (bounds : List Bound) (base : List SystemEdge) (atoms : List Atom) (links : List (Option (SystemEdge × SystemEdge))) (lits : List Lit) (are : AreEdges log bounds base)
    (linked_is : AreLinks atoms links) (among : All (IsOrderAmong (length log.rows + 1)) atoms) (low : All (λ l. l.var < length atoms) (linked links lits)) where
  abbrev orders : List Lit
  orders = linked links lits

  abbrev edges : List SystemEdge
  edges = base ++ edges_of links lits

  base_size : length base ≡ length bounds
  base_size = count-edges log bounds base are

  order_size : length orders ≡ length (edges_of links lits)
  order_size = order_count links lits

  -- what the literal at a place after the bounds says
  pub order_at : (k : ℕ) → k < length orders → edge_of_lit links (lit_at orders k) ≡ Some (system.edge_at (edges_of links lits) k)
  order_at k within =
      paired (edge_of_lit links) Some orders (edges_of links lits) (record { var = 0; positive = false }) (record { from = 0; to = 0; bound = pos 0 }) k
      (linked_edges links lits) (omega (arith, within, order_size))

  order_edge : (k : ℕ) → k < length orders → sensed_edge (order_edges (atom_at atoms (lit_at orders k).var)) (lit_at orders k).positive ≡ Some (system.edge_at (edges_of links lits) k)
  order_edge k within =
      let in_atoms = low k _ within in
      let some = edges_some (edges_at links (lit_at orders k).var) (lit_at orders k).positive _ (order_at k within) in
      let at = linked_is.each (lit_at orders k).var (atom_at atoms (lit_at orders k).var) some.0 (atom_there atoms (lit_at orders k).var in_atoms) some.1 in
      ap (λ o. sensed_edge o (lit_at orders k).positive) (at ∙ sym some.1) ∙ order_at k within

  -- the step at a place has the edge at that place
  step_edge : (p : ℕ) (s : Step) → p < length edges → step_in bounds atoms orders p ≡ Some s → edge_of log s ≡ Some (edge_in (system.edge_at edges p))
  step_edge p s within is = elim (cases_lt p (length bounds)) [
    | inl bound_ ↦
        let here = lt-ltb p (length bounds) bound_ in
        let same : Some (step_of (bound_at bounds p)) ≡ Some s = rw here at is in
        let step_is : step_of (bound_at bounds p) ≡ s = cc in
        let in_base : p < length base = omega (arith, bound_, base_size) in
        let left = get_or_append_left base (edges_of links lits) (record { from = 0; to = 0; bound = pos 0 }) p in_base in
        rw (← step_is, left) (edge-at log bounds base p are in_base)
    | inr past ↦
        let after : nat_lt p (length bounds) ≡ false = le-ltb p (length bounds) past in
        let ordered_ : order_step (read_lit atoms (lit_at orders (p - length bounds))) ≡ Some s = rw after at is in
        let size = length-append base (edges_of links lits) in
        let k_in : p - length bounds < length orders = omega (arith, past, within, size, base_size, order_size) in
        let right = get_or-append_right base (edges_of links lits) (length bounds) p (record { from = 0; to = 0; bound = pos 0 }) base_size past in
        rw right (order_has_edge log (atom_at atoms (lit_at orders (p - length bounds)).var) (lit_at orders (p - length bounds)).positive s _
        (among (lit_at orders (p - length bounds)).var _ (low (p - length bounds) _ k_in)) (order_edge (p - length bounds) k_in) ordered_)
  ]

  steps_edges : (walk : List ℕ) (steps : List Step) → All (λ p. p < length edges) walk → map (step_in bounds atoms orders) walk ≡ map Some steps → HasEdges log steps (walked edges walk)
  steps_edges [] [] within same = refl
  steps_edges [] (s ∷ ss) within same = absurd (cc)
  steps_edges (p ∷ ps) [] within same = absurd (cc)
  steps_edges (p ∷ ps) (s ∷ ss) within same =
      let both = parts_same (step_in bounds atoms orders p) (Some s) (map (step_in bounds atoms orders) ps) (map Some ss) same in
      rw (step_edge p s (All-head (λ q. q < length edges) p ps within) both.0, steps_edges ps ss (All-tail (λ q. q < length edges) p ps within) both.1) refl

  -- the steps of a walk of negative sum are a conflict
  pub walk_conflict : (walk : List ℕ) (steps : List Step) → system.IsNegativeCycle edges walk → map (step_in bounds atoms orders) walk ≡ map Some steps → Conflict log steps
  walk_conflict walk steps cycle same = record {
    edges = walked edges walk;
    found = steps_edges walk steps (places-of-cycle edges walk cycle.closed) same;
    closed = closed-same edges walk cycle.closed;
    negative = rw (sum-same edges walk) cycle.negative;
  }
