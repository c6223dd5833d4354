-- What a refused edge teaches: the clause of the walk that it closes is false, and has a literal of the present level.
use Rattle.std.proofs.Common.{◌≡◌, ◌≢◌, ◌∙◌, sym, ap, refl, subst, ℕ, zero, suc, ◌+◌, ◌-◌, ◌<◌, ◌≤◌, inl, inr, Bool, true, false, List, [], ◌∷◌, ◌++◌, length, take, drop, Option, Some, None, arith}
use Rattle.std.specs.Prelude.{is_some, nat_lt, not, option_to_list, slice_index_or, All, AllPairs}
use Rattle.std.specs.List.{cons_option, Contains}
use Rattle.std.proofs.lemmas.Bool.{cases_lt, le-ltb, ltb-false}
use Rattle.std.proofs.lemmas.List.{append_assoc, get_or-append_right, length-append, length-map, length_push, map-append, take-append-drop, get_or-map}
use Rattle.std.proofs.lemmas.List.Elements.{All-nil, All-cons, All-append, All-contains_itself, All-filter, All-get_or, All-head, All-tail, filter-append}
use Rattle.std.proofs.lemmas.List.Kept.{AllPairs-cons, AllPairs-filter}
use Rattle.hint_refutation.proofs.Lists.{any_from, contains_cases, contains_first, contains_later, contains_none}
use Rattle.hint_refutation.specs.Propagation.{IsSettled}
use Rattle.neg_cycle.specs.declared.system.Edge.{Edge}
use Rattle.neg_cycle.specs.Laws.{PotentialExcludesCycles}
use Rattle.neg_cycle.specs.Systems.{VisitsOnce, edge_at}
use Rattle.difference_graph.specs.Graphs.{Constraints, IsSolved}
use Rattle.clause_db.specs.declared.lit.Lit.{Lit}
use Rattle.clause_db.specs.Literals.{HasVarsOnce, negation}
use Rattle.clause_db.specs.Clauses.{clause_at}
use Rattle.propagate.specs.declared.entry.Entry.{Entry}
use Rattle.propagate.specs.Links.{edge_in as sensed_edge, edge_of, edges_at, edges_of}
use Rattle.propagate.specs.Trails.{Assigned, no_entry, entry_at, literals, up_to, IsTrail}
use Rattle.propagate.specs.Clauses.{IsFalsified}
use Rattle.propagate.proofs.LawLemmas.{added_clause_keeps}
use Rattle.propagate.proofs.StepLemmas.{edges_push}
use Rattle.analyze.specs.Asserting.{HasHere, IsFalseSince}
use Rattle.analyze.specs.Resolving.{level_of}
use Rattle.analyze.proofs.Order.{since_from}
use Rattle.axiom_rules.specs.declared.literal.Literal.{Literal}
use Rattle.axiom_rules.specs.Literals.{same_atom, same_literal}
use Rattle.axiom_rules.specs.Parts.{each_once}
use Rattle.axiom_rules.proofs.PartLemmas.{atoms_same}
use Rattle.cdcl_core.specs.Orders.{linked}
use Rattle.cdcl_core.specs.Running.{IsConflicted, IsStuck}
use Rattle.cdcl_core.specs.Walking.{denied_at, denied_in, lit_at}
use Rattle.cdcl_core.proofs.Conflicts.{settled_above}
use Rattle.cdcl_core.proofs.Cycles.{linked_edges, uses_last}
use Rattle.mt_list.proofs.Lists.{filter_whole}
use Rattle.propagate.proofs.PlaceLemmas.{undone}

pairs_head : {X : Type 0} (R : X → X → Type 0) (x : X) (xs : List X) → AllPairs R (x ∷ xs) → All (R x) xs
pairs_head R x xs pairs = λ k d below. pairs 0 (suc k) d (omega arith) (omega (arith, below))

pairs_tail : {X : Type 0} (R : X → X → Type 0) (x : X) (xs : List X) → AllPairs R (x ∷ xs) → AllPairs R xs
pairs_tail R x xs pairs = λ i j d less below. pairs (suc i) (suc j) d (omega (arith, less)) (omega (arith, below))

none_over : (n : ℕ) → n - n ≡ 0
none_over n = omega arith

one_left : (xs : List Entry) (n : ℕ) → length xs ≡ n + 1 → drop n xs ≡ entry_at xs n ∷ []
one_left [] n size = absurd (omega arith)
one_left (x ∷ []) zero size = refl
one_left (x ∷ y ∷ ys) zero size = absurd (omega arith)
one_left (x ∷ xs) (suc n) size = one_left xs n (omega arith)

edges_some : (o : Option (Edge × Edge)) (b : Bool) (e : Edge) → sensed_edge o b ≡ Some e → is_some o ≡ true
edges_some None b e is = absurd (cc)
edges_some (Some both) b e is = refl

-- what holds of the negation of each literal at a place of the walk holds of the clause
module _ (base : ℕ) (orders : List Lit) where
  pub denied_all : (P : Lit → Type 0) (walk : List ℕ) → All (λ q. base ≤ q → P (negation (lit_at orders (q - base)))) walk → All P (denied_in base orders walk)
  denied_all P [] each = All-nil P
  denied_all P (p ∷ ps) each = go (nat_lt p base) refl (denied_all P ps (All-tail (λ q. base ≤ q → P (negation (lit_at orders (q - base)))) p ps each)) where
    go : (b : Bool) → nat_lt p base ≡ b → All P (denied_in base orders ps) → All P (denied_in base orders (p ∷ ps))
    go true is rest = rw is rest
    go false is rest =
        rw is (All-cons P (negation (lit_at orders (p - base))) (denied_in base orders ps) (All-head (λ q. base ≤ q → P (negation (lit_at orders (q - base)))) p ps each (ltb-false p base is)) rest)

  denied_has : (walk : List ℕ) (p : ℕ) → Contains walk p → base ≤ p → Contains (denied_in base orders walk) (negation (lit_at orders (p - base)))
  denied_has [] p has le = absurd (contains_none p has)
  denied_has (q ∷ qs) p has le = elim (contains_cases q p qs has) [
    | inl here ↦ rw (here, le-ltb p base le) (contains_first (negation (lit_at orders (p - base))) (denied_in base orders qs))
    | inr there ↦ later (denied_at base orders q) (denied_has qs p there le)
  ] where
    later : (o : Option Lit) → Contains (denied_in base orders qs) (negation (lit_at orders (p - base))) → Contains (cons_option o (denied_in base orders qs)) (negation (lit_at orders (p - base)))
    later None has = has
    later (Some l) has = contains_later l (negation (lit_at orders (p - base))) (denied_in base orders qs) has

  vars_apart : HasVarsOnce orders → (i j : ℕ) → i < length orders → j < length orders → i ≢ j → (lit_at orders i).var ≢ (lit_at orders j).var
  vars_apart once i j low_i low_j other same = elim (cases_lt i j) [
    | inl before ↦ once i j _ before low_j same
    | inr after ↦ once j i _ (omega (arith, after, other)) low_i (sym same)
  ]

  -- the clause of a walk that is at no place twice has no variable twice
  pub denied_once : (walk : List ℕ) → All (λ p. p < base + length orders) walk → AllPairs (λ p q. p ≢ q) walk → HasVarsOnce orders → HasVarsOnce (denied_in base orders walk)
  denied_once [] within apart once = λ i j d less below. absurd (omega (arith, below))
  denied_once (p ∷ ps) within apart once = go (nat_lt p base) refl (denied_once ps (All-tail (λ q. q < base + length orders) p ps within) (pairs_tail (λ q r. q ≢ r) p ps apart) once) where
    others : base ≤ p → All (λ (m : Lit). (negation (lit_at orders (p - base))).var ≢ m.var) (denied_in base orders ps)
    others le = denied_all (λ (m : Lit). (negation (lit_at orders (p - base))).var ≢ m.var) ps (λ k d below ge.
        let q_in = All-tail (λ q. q < base + length orders) p ps within k d below in
        let p_in = All-head (λ q. q < base + length orders) p ps within in
        let differ = pairs_head (λ q r. q ≢ r) p ps apart k d below in
        vars_apart once (p - base) (slice_index_or ps k d - base) (omega (arith, p_in, le)) (omega (arith, q_in, ge)) (λ same. differ (omega (arith, same, le, ge))))

    go : (b : Bool) → nat_lt p base ≡ b → HasVarsOnce (denied_in base orders ps) → HasVarsOnce (denied_in base orders (p ∷ ps))
    go true is rest = rw is rest
    go false is rest = rw is (AllPairs-cons (λ (k l : Lit). k.var ≢ l.var) (negation (lit_at orders (p - base))) (denied_in base orders ps) (others (ltb-false p base is)) rest)

-- literals of different atoms are each there once
apart_not_same : (l m : Literal) → l.atom ≢ m.atom → not (same_literal m l) ≡ true
apart_not_same l m differ = go (same_atom m.atom l.atom) refl where
  go : (b : Bool) → same_atom m.atom l.atom ≡ b → not (same_literal m l) ≡ true
  go true is = absurd (differ (sym (atoms_same m.atom l.atom is)))
  go false is = rw is refl

pub once_whole : (ls : List Literal) → AllPairs (λ l m. l.atom ≢ m.atom) ls → each_once ls ≡ ls
once_whole [] apart = refl
once_whole (l ∷ ls) apart =
    let rest = once_whole ls (pairs_tail (λ (k m : Literal). k.atom ≢ m.atom) l ls apart) in
    let kept = filter_whole (λ m. not (same_literal m l)) ls (λ k d below. apart_not_same l (slice_index_or ls k d) (pairs_head (λ (i m : Literal). i.atom ≢ m.atom) l ls apart k d below)) in
    rw (rest, kept) refl

-- a stuck run
module _ (db : List (List Lit)) (links : List (Option (Edge × Edge))) (base : List Edge) (t : Assigned) (g : Constraints) (l : Lit) (stuck : IsStuck db links base t g l) where
  abbrev orders : List Lit
  orders = linked links (literals t.entries)

  abbrev clause : List Lit
  clause = denied_in (length base) orders g.cycle

  abbrev front : List Entry
  front = take (length t.entries - 1) t.entries

  last_entry : literals t.entries ≡ literals front ++ l ∷ []
  last_entry =
      let n = length t.entries - 1 in
      let last = stuck.last in
      let place : last.place ≡ n = let size = last.is_last in omega (arith, size) in
      let rest : drop n t.entries ≡ entry_at t.entries n ∷ [] = one_left t.entries n (let size = last.is_last in omega (arith, size)) in
      ap literals (sym (take-append-drop n t.entries)) ∙ map-append (λ (e : Entry). e.lit) front (drop n t.entries) ∙ ap (λ es. literals front ++ literals es) rest
      ∙ ap (λ k. literals front ++ k ∷ []) (ap (λ i. (entry_at t.entries i).lit) (sym place) ∙ last.is)

  -- the edges that the graph holds and the refused one are those of the base and of all literals
  pub whole_edges : g.edges ++ stuck.refused.edge ∷ [] ≡ base ++ edges_of links (literals t.entries)
  whole_edges =
      let held = stuck.step.step.edges in
      let one : edges_of links (literals t.entries) ≡ edges_of links (literals front) ++ stuck.refused.edge ∷ [] =
      ap (λ ls. edges_of links ls) last_entry ∙ edges_push links (literals front) l ∙ ap (λ o. edges_of links (literals front) ++ option_to_list o) stuck.refused.of_literal in
      ap (λ es. es ++ stuck.refused.edge ∷ []) held ∙ append_assoc base (edges_of links (literals front)) (stuck.refused.edge ∷ []) ∙ ap (λ es. base ++ es) (sym one)

  -- the literals that have edges are those of the held edges, and then the last one
  last_order : orders ≡ linked links (literals front) ++ l ∷ []
  last_order =
      let some : is_some (edges_at links l.var) ≡ true = edges_some (edges_at links l.var) l.positive stuck.refused.edge stuck.refused.of_literal in
      let one : linked links (l ∷ []) ≡ l ∷ [] = rw some refl in
      ap (λ ls. linked links ls) last_entry ∙ filter-append (λ (k : Lit). is_some (edges_at links k.var)) (literals front) (l ∷ []) ∙ ap (λ ls. linked links (literals front) ++ ls) one

  front_count : length g.edges ≡ length base + length (linked links (literals front))
  front_count =
      let edges = length-map (edges_of links (literals front)) Some in
      let lits = length-map (linked links (literals front)) (edge_of links) in
      let same = ap length (linked_edges links (literals front)) in
      let size = length-append base (edges_of links (literals front)) in
      let held = ap length stuck.step.step.edges in
      omega (arith, edges, lits, same, size, held)

  last_at : lit_at orders (length g.edges - length base) ≡ l
  last_at =
      let k : length g.edges - length base ≡ length (linked links (literals front)) = omega (arith, front_count) in
      ap (λ i. lit_at orders i) k ∙ ap (λ ls. lit_at ls (length (linked links (literals front)))) last_order
      ∙ get_or-append_right (linked links (literals front)) (l ∷ []) (length (linked links (literals front))) (length (linked links (literals front)))
      (record { var = 0; positive = false }) refl (omega arith)
      ∙ ap (λ i. lit_at (l ∷ []) i) (none_over (length (linked links (literals front))))

  -- the refused literal stands negated in the clause
  pub last_denied : PotentialExcludesCycles → IsSolved g → Contains clause (negation l)
  last_denied law solved =
      let there = uses_last g.edges stuck.refused.edge (λ places cycle. law g.edges g.numbers places solved.potential.meets cycle) g.cycle stuck.refused.cycle in
      subst (λ k. Contains clause (negation k)) last_at (denied_has (length base) orders g.cycle (length g.edges) there (omega (arith, front_count)))

  order_held : (k : ℕ) → k < length orders → Contains (literals t.entries) (lit_at orders k)
  order_held k below =
      let p : Lit → Bool = λ (x : Lit). is_some (edges_at links x.var) in
      All-get_or (Contains (literals t.entries)) orders k (record { var = 0; positive = false }) below
      (All-filter p (Contains (literals t.entries)) (literals t.entries) (All-contains_itself (literals t.entries)))

  pub clause_false : All (λ p. p < length base + length orders) g.cycle → IsFalsified t.entries clause
  clause_false within = denied_all (length base) orders (λ (m : Lit). Contains (literals t.entries) (negation m)) g.cycle (λ k d below ge.
      let q = slice_index_or g.cycle k d in
      let q_in = within k d below in
      subst (λ (x : Lit). Contains (literals t.entries) x) (sym (undone (lit_at orders (q - length base)))) (order_held (q - length base) (omega (arith, q_in, ge))))

  last_level : 0 < length t.levels → level_of t.entries stuck.last.place ≡ length t.levels
  last_level some =
      let size = stuck.last.is_last in
      let within : stuck.last.place < length t.entries = omega (arith, size) in
      let levels = stuck.trail.levels in
      let start = levels.within (length t.levels - 1) (omega (arith, some)) in
      let high = (levels.reached (length t.levels - 1) stuck.last.place (omega (arith, some)) within).0 (omega (arith, start, size)) in
      let top = levels.top stuck.last.place within in
      omega (arith, high, top, some)

  pub has_here : Contains clause (negation l) → 0 < length t.levels → HasHere t clause
  has_here has some =
      let size = stuck.last.is_last in
      any_from (IsFalseSince t.entries (λ n. n ≡ length t.levels)) clause (negation l) has
      (since_from t.entries (λ n. n ≡ length t.levels) stuck.last.place (negation l) (omega (arith, size)) (stuck.last.is ∙ sym (undone l)) (last_level some))

  -- with the clause added there is a conflict
  pub stuck_conflicted : PotentialExcludesCycles → IsSolved g → All (λ p. p < length base + length orders) g.cycle → All (λ m. m.var < t.vars) clause
      → IsConflicted (db ++ clause ∷ []) links base t g (length db)
  stuck_conflicted law solved within vars = record {
    trail = stuck.trail;
    step = inr (added_clause_keeps.lacks_last t db clause links base g vars stuck.step);
    conflict = record { held = omega (arith, length_push db clause); falsified = subst (λ (c : List Lit). IsFalsified t.entries c) (sym new) (clause_false within) };
    here = λ some. subst (HasHere t) (sym new) (has_here (last_denied law solved) some);
    closed = λ m deep two.
        let settled : List Lit → Type 0 = λ c. IsSettled negation (literals (up_to m t.entries)) c in
        All-append settled db (clause ∷ []) (stuck.closed m deep) (All-cons settled clause [] (settled_above t stuck.trail m clause (rw new at two)) (All-nil settled));
  } where
    new : clause_at (db ++ clause ∷ []) (length db) ≡ clause
    new = get_or-append_right db (clause ∷ []) (length db) (length db) [] refl (omega arith) ∙ ap (λ i. clause_at (clause ∷ []) i) (none_over (length db))

-- edges that begin at different nodes are at different places
pub places_apart : (edges : List Edge) (walk : List ℕ) → VisitsOnce edges walk → AllPairs (λ p q. p ≢ q) walk
places_apart edges walk once = λ i j d less below same. once i j d less below (ap (λ q. (edge_at edges q).from) same)

-- no variable has two literals with edges
pub orders_once : (t : Assigned) (links : List (Option (Edge × Edge))) → IsTrail t → HasVarsOnce (linked links (literals t.entries))
orders_once t links trail = AllPairs-filter (λ (k l : Lit). k.var ≢ l.var) (λ (l : Lit). is_some (edges_at links l.var)) (literals t.entries) lits_once where
  lit_of : Entry → Lit
  lit_of e = e.lit

  lits_once : HasVarsOnce (literals t.entries)
  lits_once i j d less below same =
      let size = length-map t.entries lit_of in
      let at_i = get_or-map lit_of t.entries i no_entry d (omega (arith, less, below, size)) in
      let at_j = get_or-map lit_of t.entries j no_entry d (omega (arith, below, size)) in
      trail.once i j no_entry less (omega (arith, below, size)) (ap (λ (x : Lit). x.var) (sym at_i) ∙ same ∙ ap (λ (x : Lit). x.var) at_j)
