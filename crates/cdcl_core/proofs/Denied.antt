-- The clause that not all order literals of a walk hold, as the clause of its steps.
use Rattle.std.proofs.Common.{◌≡◌, refl, ℕ, ◌+◌, ◌-◌, ◌<◌, inl, inr, Bool, true, false, List, [], ◌∷◌, ◌++◌, length, map, Option, Some, None, arith, ℤ, pos, ◌-ℤ◌, neg_ℤ}
use Rattle.std.specs.Prelude.{nat_lt, not, option_map, All}
use Rattle.std.specs.List.{cons_option, filter_map}
use Rattle.std.proofs.lemmas.Bool.{cases_lt, le-ltb, lt-ltb}
use Rattle.std.proofs.lemmas.Int.{ints}
use Rattle.std.proofs.lemmas.List.{length-append}
use Rattle.std.proofs.lemmas.List.Elements.{All-head, All-tail}
use Rattle.mt_model.specs.declared.bound.Bound.{Bound}
use Rattle.mt_model.specs.declared.bound.Bound.TheVariants as bound
use Rattle.mt_model.specs.declared.step.Step.{Step}
use Rattle.mt_model.specs.declared.step.Step.TheVariants as step
use Rattle.mt_model.specs.Bounds.{step_of}
use Rattle.mt_model.specs.Log.{Logged}
use Rattle.neg_cycle.specs.declared.system.Edge.{Edge as SystemEdge}
use Rattle.skew_bounds.specs.Edges.{AreEdges, bound_at}
use Rattle.skew_bounds.proofs.Settled.{count-edges}
use Rattle.clause_db.specs.declared.lit.Lit.{Lit}
use Rattle.propagate.specs.Links.{edges_of}
use Rattle.axiom_rules.specs.declared.literal.Atom.{Atom}
use Rattle.axiom_rules.specs.declared.literal.Atom.TheVariants.{Order, Node, First, Same, Wit, Span, Gap}
use Rattle.axiom_rules.specs.declared.literal.Literal.{Literal}
use Rattle.proof_log.specs.Derivations.{negated_step}
use Rattle.cdcl_core.specs.Orders.{IsOrderAmong, atom_at, linked, order_step, read_lit, sensed_step}
use Rattle.cdcl_core.specs.Walking.{denied_at, denied_in, lit_at, step_in}
use Rattle.cdcl_core.proofs.Cycles as cycles
use Rattle.mt_list.proofs.Lists.{parts_same}

-- the negation of the step of an order literal is that of the literal
back : (c : ℤ) → neg_ℤ (neg_ℤ c -ℤ pos 1) -ℤ pos 1 ≡ c
back c = omega (arith, ints)

pub order_denied : (nodes : ℕ) (a : Atom) (b : Bool) (s : Step) → IsOrderAmong nodes a → sensed_step b a ≡ Some s → negated_step s ≡ Some (record { atom = a; positive = not b })
order_denied nodes (Order e f c) true s among is =
    let same : step.Order e f c ≡ s = cc in
    rw (← same, lt-ltb e f among.smaller_first) refl
order_denied nodes (Order e f c) false s among is =
    let same : step.Order f e (neg_ℤ c -ℤ pos 1) ≡ s = cc in
    rw (← same, le-ltb f e (let less = among.smaller_first in omega (arith, less)), back c) refl
order_denied nodes (Node k e) b s among is = absurd (cc)
order_denied nodes (First e) b s among is = absurd (cc)
order_denied nodes (Same e x) b s among is = absurd (cc)
order_denied nodes (Wit k i j) b s among is = absurd (cc)
order_denied nodes (Span k i j) b s among is = absurd (cc)
order_denied nodes (Gap k i m) b s among is = absurd (cc)

bound_not_denied : (b : Bound) → negated_step (step_of b) ≡ None
bound_not_denied (bound.Low e) = refl
bound_not_denied (bound.High e) = refl
bound_not_denied (bound.Rise e) = refl
bound_not_denied (bound.Message e) = refl
bound_not_denied (bound.Late e) = refl
bound_not_denied (bound.Under e) = refl
bound_not_denied (bound.Over e) = refl
bound_not_denied (bound.Extra k) = refl

module _ (log : Logged) (bounds : List Bound) (base : List SystemEdge) (atoms : List Atom) (links : List (Option (SystemEdge × SystemEdge))) (lits : List Lit) (are : AreEdges log bounds base)
    (among : All (IsOrderAmong (length log.rows + 1)) atoms) (low : All (λ l. l.var < length atoms) (linked links lits)) where
  abbrev orders : List Lit
  orders = linked links lits

  abbrev edges : List SystemEdge
  edges = base ++ edges_of links lits

  bound_count : length base ≡ length bounds
  bound_count = count-edges log bounds base are

  order_count : length orders ≡ length (edges_of links lits)
  order_count = cycles.order_count links lits

  -- the negations of their order steps are the clause that not all order literals of the walk hold
  step_denied : (p : ℕ) (s : Step) → p < length edges → step_in bounds atoms orders p ≡ Some s → negated_step s ≡ option_map (read_lit atoms) (denied_at (length bounds) orders p)
  step_denied p s within is = elim (cases_lt p (length bounds)) [
    | inl bound_ ↦
        let here = lt-ltb p (length bounds) bound_ in
        let same : Some (step_of (bound_at bounds p)) ≡ Some s = rw here at is in
        let step_is : step_of (bound_at bounds p) ≡ s = cc in
        rw (here, ← step_is) (bound_not_denied (bound_at bounds p))
    | inr past ↦
        let after : nat_lt p (length bounds) ≡ false = le-ltb p (length bounds) past in
        let ordered_ : order_step (read_lit atoms (lit_at orders (p - length bounds))) ≡ Some s = rw after at is in
        let size = length-append base (edges_of links lits) in
        let k_in : p - length bounds < length orders = omega (arith, past, within, size, bound_count, order_count) in
        rw after (order_denied (length log.rows + 1) (atom_at atoms (lit_at orders (p - length bounds)).var) (lit_at orders (p - length bounds)).positive s
        (among (lit_at orders (p - length bounds)).var _ (low (p - length bounds) _ k_in)) ordered_)
  ]

  given : (o : Option Literal) (q : Option Lit) (ls : List Literal) (ms : List Lit) → o ≡ option_map (read_lit atoms) q → ls ≡ map (read_lit atoms) ms
      → cons_option o ls ≡ map (read_lit atoms) (cons_option q ms)
  given o None ls ms same rest = rw (same, rest) refl
  given o (Some m) ls ms same rest = rw (same, rest) refl

  pub walk_denied : (walk : List ℕ) (steps : List Step) → All (λ p. p < length edges) walk → map (step_in bounds atoms orders) walk ≡ map Some steps
      → filter_map negated_step steps ≡ map (read_lit atoms) (denied_in (length bounds) orders walk)
  walk_denied [] [] within same = refl
  walk_denied [] (s ∷ ss) within same = absurd (cc)
  walk_denied (p ∷ ps) [] within same = absurd (cc)
  walk_denied (p ∷ ps) (s ∷ ss) within same =
      let both = parts_same (step_in bounds atoms orders p) (Some s) (map (step_in bounds atoms orders) ps) (map Some ss) same in
      given (negated_step s) (denied_at (length bounds) orders p) (filter_map negated_step ss) (denied_in (length bounds) orders ps)
      (step_denied p s (All-head (λ q. q < length edges) p ps within) both.0) (walk_denied ps ss (All-tail (λ q. q < length edges) p ps within) both.1)
