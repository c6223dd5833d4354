-- What propagation keeps as it assigns literals.
use Rattle.std.proofs.Common.{◌≡◌, ◌≢◌, ◌∙◌, ap, sym, subst, refl, ℕ, ◌<◌, ◌≤◌, inl, inr, List, [], ◌∷◌, ◌++◌, length, take, get_or, arith, Option, Some, None, Result, Ok, Err, length-append}
use Rattle.std.specs.Prelude.{option_to_list, IfOk, IfSome, IsSome, OnErr, Bool}
use Rattle.std.proofs.lemmas.Bool.{cases_lt}
use Rattle.std.proofs.lemmas.List.{take_at, take_all, take-take, length_push, get_or-take, get_or_append_left}
use Rattle.std.proofs.lemmas.List.Elements.{All-push, All-weaker, All-contains, All-nil}
use Rattle.std.proofs.lemmas.List.Quantifiers.{all_pairs_push}
use Rattle.neg_cycle.specs.declared.system.Edge.{Edge}
use Rattle.difference_graph.specs.Graphs.{Constraints, HasSameLimits, IfKept, IfRefused}
use Rattle.difference_graph.specs.declared.push.Push.{Push}
use Rattle.difference_graph.specs.declared.push.Push.TheVariants.{Kept, Cycle}
use Rattle.clause_db.specs.declared.lit.Lit.{Lit}
use Rattle.hint_refutation.specs.Hints.{LeavesOnly}
use Rattle.clause_db.specs.Literals.{negation}
use Rattle.clause_db.specs.Clauses.{clause_at}
use Rattle.propagate.specs.declared.entry.Entry.{Entry}
use Rattle.propagate.specs.declared.linked_clauses.LinkedClauses.{LinkedClauses}
use Rattle.propagate.specs.declared.watch.Watch.{Watch}
use Rattle.propagate.specs.Links.{edge_in, edge_of, edges_at}
use Rattle.propagate.specs.Trails.{Assigned, no_entry, entry_at, literals, IsUnassigned, IsTrail, followed, rewatched}
use Rattle.propagate.specs.Watching.{Watching}
use Rattle.propagate.specs.Clauses.{HasReasons, IsReason}
use Rattle.propagate.specs.Watched.{AreWatched}
use Rattle.propagate.specs.Best.{AreLastToFall, AreLastToFallFrom, IsLastToFall}
use Rattle.propagate.specs.Steps.{InStep, IsInStep, IsRefused, HasRoomFor, LacksLast}
use Rattle.propagate.specs.Reach.{HasStopped, IfClause, IfQuiet, IfTheory, IsAtWork, IsConflict, IsGrown, IsExtended, IsLast, IsProgress, IsStopped, IsToldAs, UnlessQuiet, UnlessTheory}
use Rattle.propagate.specs.declared.propagation.Reached.{Reached}
use Rattle.propagate.specs.declared.propagation.Reached.TheVariants as reached
use Rattle.propagate.specs.declared.stop.Stop.{Stop}
use Rattle.propagate.specs.declared.stop.Stop.TheVariants as stop
use Rattle.propagate.proofs.TrailLemmas.{cases_push, new_entry, trail_followed}
use Rattle.propagate.proofs.WatchedLemmas.{watched_push, watched_propagated}
use Rattle.propagate.proofs.FallLemmas.{last_longer}
use Rattle.propagate.proofs.ClosedLemmas.{closed_grown}
use Rattle.propagate.proofs.StepLemmas.{linked_same, reasons_followed, step_followed, lacks_followed}

pub if_kept_from : {A B : Type 0} (r : Push) → IfKept r A → (A → B) → IfKept r B
if_kept_from Kept a f = f a
if_kept_from Cycle a f = tt

pub if_refused_from : {A B : Type 0} (r : Push) → IfRefused r A → (A → B) → IfRefused r B
if_refused_from Kept a f = tt
if_refused_from Cycle a f = f a

pub grown_none : (t : Assigned) → IsGrown t t
grown_none t = record { vars = refl; levels = refl; longer = omega arith; kept = take_all (length t.entries) t.entries (omega arith); added = λ k after within. absurd (omega (arith, after, within)) }

pub grown_more : (a b c : Assigned) → IsGrown a b → IsGrown b c → IsGrown a c
grown_more a b c first second = record {
  vars = second.vars ∙ first.vars;
  levels = second.levels ∙ first.levels;
  longer = omega (arith, first.longer, second.longer);
  kept = sym (take-take (length a.entries) (length b.entries) c.entries first.longer) ∙ ap (λ (xs : List Entry). take (length a.entries) xs) second.kept ∙ first.kept;
  added = λ k after within. elim (cases_lt k (length b.entries)) [
    | inl old ↦
        let same : entry_at b.entries k ≡ entry_at c.entries k = ap (λ (xs : List Entry). entry_at xs k) (sym second.kept) ∙ get_or-take (length b.entries) c.entries k no_entry old in
        rw same at (first.added k after old)
    | inr new ↦ rw first.levels at (second.added k new within)
  ];
}

-- the old literals are in their places
pub grown_entry : (a b : Assigned) (k : ℕ) → IsGrown a b → k < length a.entries → entry_at b.entries k ≡ entry_at a.entries k
grown_entry a b k grown within = sym (get_or-take (length a.entries) b.entries k no_entry within) ∙ ap (λ (xs : List Entry). entry_at xs k) grown.kept

grown_followed : (t : Assigned) (u : Lit) (c : ℕ) → IsGrown t (followed t u c)
grown_followed t u c =
    let e : Entry = record { lit = u; level = length t.levels; reason = Some c } in
    record {
      vars = refl;
      levels = refl;
      longer = omega (arith, length_push t.entries e);
      kept = take_at t.entries (e ∷ []) (length t.entries) refl;
      added = λ k after within. elim (cases_push t.entries e k within) [
        | inl old ↦ absurd (omega (arith, after, old))
        | inr is ↦ rw (new_entry t.entries e k is) (refl, refl)
      ];
    }

-- the last literals to fall stay so
module _ (t s : Assigned) (grown : IsGrown t s) (clause : List Lit) where
  pub last_grown : (l other : Lit) → IsLastToFall t.entries (length t.levels) clause l other → IsLastToFall s.entries (length s.levels) clause l other
  last_grown l other was =
      rw grown.levels (last_longer t.entries s.entries (length t.levels) grown.longer (λ k within. grown_entry t s k grown within)
      (λ k after within. (grown.added k after within).0) clause l other was)

  pub both_last_grown : (p : Watch) → AreLastToFall t.entries (length t.levels) clause p → AreLastToFall s.entries (length s.levels) clause p
  both_last_grown p was = record { first = last_grown p.first p.second was.first; second = last_grown p.second p.first was.second }

extended_none : (g : Constraints) → IsExtended g g
extended_none g = record { limits = record { nodes = refl; capacity = refl }; longer = omega arith; kept = take_all (length g.edges) g.edges (omega arith) }

extended_more : (a b c : Constraints) → IsExtended a b → IsExtended b c → IsExtended a c
extended_more a b c first second = record {
  limits = record { nodes = second.limits.nodes ∙ first.limits.nodes; capacity = second.limits.capacity ∙ first.limits.capacity };
  longer = omega (arith, first.longer, second.longer);
  kept = sym (take-take (length a.edges) (length b.edges) c.edges first.longer) ∙ ap (λ (xs : List Edge). take (length a.edges) xs) second.kept ∙ first.kept;
}

extended_by : (g h : Constraints) (es : List Edge) → HasSameLimits g h → h.edges ≡ g.edges ++ es → IsExtended g h
extended_by g h es limits is = record {
  limits = limits;
  longer = omega (arith, ap length is, length-append g.edges es);
  kept = ap (λ (xs : List Edge). take (length g.edges) xs) is ∙ take_at g.edges es (length g.edges) refl;
}

extended_same : (g h : Constraints) → HasSameLimits g h → h.edges ≡ g.edges → IsExtended g h
extended_same g h limits is = record {
  limits = limits;
  longer = omega (arith, ap length is);
  kept = ap (λ (xs : List Edge). take (length g.edges) xs) is ∙ take_all (length g.edges) g.edges (omega arith);
}

unassigned_front : (xs : List Entry) (e : Entry) (v : ℕ) → IsUnassigned (xs ++ e ∷ []) v → IsUnassigned xs v
unassigned_front xs e v free k d within = rw (get_or_append_left xs (e ∷ []) d k within) at (free k d (omega (arith, within, length_push xs e)))

unassigned_last : (xs : List Entry) (e : Entry) (v : ℕ) → IsUnassigned (xs ++ e ∷ []) v → e.lit.var ≢ v
unassigned_last xs e v free = rw (new_entry xs e (length xs) refl) at (free (length xs) no_entry (omega (arith, length_push xs e)))

some_edges : (r : Option (Edge × Edge)) (p : Bool) (e : Edge) → edge_in r p ≡ Some e → IsSome r
some_edges None p e is = absurd cc
some_edges (Some both) p e is = refl

abbrev IsOpen : Assigned → List (Option (Edge × Edge)) → ℕ → Type 0
IsOpen t links v = (v < t.vars) × IsUnassigned t.entries v × IsSome (edges_at links v)

module _ (t : Assigned) (links : List (Option (Edge × Edge))) (g : Constraints) (room : HasRoomFor t links g) (u : Lit) (below : u.var < t.vars) (free : IsUnassigned t.entries u.var) where
  room_here : (e : Edge) → edge_of links u ≡ Some e → length g.edges < g.capacity
  room_here e is =
      let most = room (u.var ∷ []) (all_pairs_push (λ v w. v ≢ w) [] u.var (λ i j d less within. absurd (omega (arith, less, within))) (λ k d within. absurd (omega (arith, within))))
      (All-push (IsOpen t links) [] u.var (All-nil (IsOpen t links)) (below, free, some_edges (edges_at links u.var) u.positive e is)) in
      omega (arith, most)

  room_if : (r : Option Edge) → edge_of links u ≡ r → IfSome r (λ _. length g.edges < g.capacity)
  room_if None is = tt
  room_if (Some e) is = room_here e is

  -- the graph has room for the literal's edge
  pub room_for_edge : IfSome (edge_of links u) (λ _. length g.edges < g.capacity)
  room_for_edge = room_if (edge_of links u) refl

  module _ (c : ℕ) (h : Constraints) (limits : HasSameLimits g h) where
    room_more : (r : Option Edge) → edge_of links u ≡ r → h.edges ≡ g.edges ++ option_to_list r → HasRoomFor (followed t u c) links h
    room_more None is kept vars apart unset =
        let e : Entry = record { lit = u; level = length t.levels; reason = Some c } in
        let old = room vars apart (All-weaker (IsOpen (followed t u c) links) (IsOpen t links) (λ v is. (is.0, unassigned_front t.entries e v is.1, is.2)) vars unset) in
        omega (arith, old, ap length kept, length-append g.edges [], limits.capacity)
    room_more (Some edge) is kept vars apart unset =
        let e : Entry = record { lit = u; level = length t.levels; reason = Some c } in
        let old = room (vars ++ u.var ∷ []) (all_pairs_push (λ v w. v ≢ w) vars u.var apart (λ k d within same. unassigned_last t.entries e (get_or vars k d) (unset k d within).1 (sym same)))
        (All-push (IsOpen t links) vars u.var
        (All-weaker (IsOpen (followed t u c) links) (IsOpen t links) (λ v is. (is.0, unassigned_front t.entries e v is.1, is.2)) vars unset)
        (below, free, some_edges (edges_at links u.var) u.positive edge is)) in
        omega (arith, old, ap length kept, length-append g.edges (edge ∷ []), length_push vars u.var, limits.capacity)

    room_followed : h.edges ≡ g.edges ++ option_to_list (edge_of links u) → HasRoomFor (followed t u c) links h
    room_followed kept = room_more (edge_of links u) refl kept

pub progress_none : (t : Assigned) (clauses : LinkedClauses) (g : Constraints) → IsAtWork clauses t g → IsProgress clauses (t, g) (t, g)
progress_none t clauses g work = record {
  work = work;
  grown = grown_none t;
  known = omega arith;
  last = λ n was. was;
  extended = extended_none g;
  in_step = λ base step. step;
}

module _ (clauses : LinkedClauses) (a b c : Assigned) (g h i : Constraints) (first : IsProgress clauses (a, g) (b, h)) where
  pub progress_more : IsProgress clauses (b, h) (c, i) → IsProgress clauses (a, g) (c, i)
  progress_more second = record {
    work = second.work;
    grown = grown_more a b c first.grown second.grown;
    known = let before = first.known in let after = second.known in omega (arith, before, after);
    last = λ n was. second.last n (first.last n was);
    extended = extended_more g h i first.extended second.extended;
    in_step = λ base step. second.in_step base (first.in_step base step);
  }

  stopped_more : (u : Lit) → IsStopped clauses (b, h) u (c, i) → IsStopped clauses (a, g) u (c, i)
  stopped_more u second = record {
    reasons = second.reasons;
    watched = second.watched;
    grown = grown_more a b c first.grown second.grown;
    extended = extended_more g h i first.extended second.extended;
    last = second.last;
    refused = second.refused;
    lacks_last = λ base step. second.lacks_last base (first.in_step base step);
  }

  -- where propagation came to, from further back
  pub stop_more : (s : Stop) → HasStopped clauses (b, h) s (c, i) → HasStopped clauses (a, g) s (c, i)
  stop_more (stop.Clause k) second = (progress_more second.0, second.1)
  stop_more (stop.Theory u) second = stopped_more u second
  stop_more stop.Memory second = progress_more second

-- a literal of a clause whose others are false, and that is assigned now
module _ (t : Assigned) (clauses : LinkedClauses) (g h : Constraints) (u : Lit) (c : ℕ) (held : c < length clauses.db.now) (leaves : LeavesOnly negation (literals t.entries) (clause_at clauses.db.now c) u)
    (free : IsUnassigned t.entries u.var) (work : IsAtWork clauses t g) (limits : HasSameLimits g h) where
  why : IsReason clauses.db.now (literals t.entries) u c
  why = record { held = held; leaves = leaves }

  below : u.var < t.vars
  below = All-contains (λ (l : Lit). l.var < t.vars) (clause_at clauses.db.now c) u (work.reasons.variables c [] held) leaves.has

  pub progress_followed : h.edges ≡ g.edges ++ option_to_list (edge_of clauses.links.now u) → IsProgress clauses (t, g) (followed t u c, h)
  progress_followed kept = record {
    work = record {
      trail = trail_followed t u c work.trail below free;
      reasons = reasons_followed t clauses.db.now u c work.reasons why;
      watched = watched_push t clauses.db.now (record { lit = u; level = length t.levels; reason = Some c }) t.levels work.trail work.watched;
      closed = closed_grown t (followed t u c) clauses.db.now (grown_followed t u c) work.closed;
      linked = linked_same t (followed t u c) clauses.links.now g h refl limits work.linked;
      room = room_followed t clauses.links.now g work.room u below free c h limits kept;
    };
    grown = grown_followed t u c;
    known = omega arith;
    last = λ n was d p from is. both_last_grown t (followed t u c) (grown_followed t u c) (clause_at clauses.db.now d) p (was d p from is);
    extended = extended_by g h (option_to_list (edge_of clauses.links.now u)) limits kept;
    in_step = λ base step. step_followed t clauses.db.now clauses.links.now base g h work.trail limits step u c why kept;
  }

  pub stopped_followed : h.edges ≡ g.edges → IsRefused clauses.links.now u h → IsStopped clauses (t, g) u (followed t u c, h)
  stopped_followed same refused =
      let e : Entry = record { lit = u; level = length t.levels; reason = Some c } in
      record {
        reasons = reasons_followed t clauses.db.now u c work.reasons why;
        watched = watched_push t clauses.db.now e t.levels work.trail work.watched;
        grown = grown_followed t u c;
        extended = extended_same g h limits same;
        last = record { place = length t.entries; is_last = length_push t.entries e; is = ap (λ (x : Entry). x.lit) (new_entry t.entries e (length t.entries) refl) };
        refused = refused;
        lacks_last = λ base step. lacks_followed t clauses.db.now clauses.links.now base g h work.trail limits step u c why same;
      }

-- a literal of a clause that is assigned is in range
pub literal_below : (t : Assigned) (db : List (List Lit)) (c : ℕ) (u : Lit) → HasReasons t db → c < length db → LeavesOnly negation (literals t.entries) (clause_at db c) u → u.var < t.vars
literal_below t db c u reasons held leaves = All-contains (λ (l : Lit). l.var < t.vars) (clause_at db c) u (reasons.variables c [] held) leaves.has

-- other watched literals, and so many literals propagated
module _ (t : Assigned) (db : List (List Lit)) (w : Watching) (n : ℕ) where
  abbrev s : Assigned
  s = rewatched t w n

  reasons_rewatched : HasReasons t db → HasReasons (rewatched t w n) db
  reasons_rewatched old = record { variables = old.variables; reasons = old.reasons }

  step_rewatched : (held : List Lit) (links : List (Option (Edge × Edge))) (base : List Edge) (g : Constraints)
      → AreWatched (rewatched t w n) db → IsInStep held t db links base g → IsInStep held (rewatched t w n) db links base g
  step_rewatched held links base g watched old = record {
    reasons = reasons_rewatched old.reasons;
    watched = watched;
    linked = record { variables = old.linked.variables; edges = old.linked.edges };
    edges = old.edges;
    marks = old.marks;
  }

module _ (t : Assigned) (clauses : LinkedClauses) (w : Watching) (n : ℕ) where
  pub progress_rewatched : (a : Assigned) (g h : Constraints) → IsTrail (rewatched t w n)
      → AreWatched (rewatched t w n) clauses.db.now → length t.watching.watches ≤ length w.watches
      → ((k : ℕ) → AreLastToFallFrom k t clauses.db.now → AreLastToFallFrom k (rewatched t w n) clauses.db.now) → IsProgress clauses (a, g) (t, h) → IsProgress clauses (a, g) (rewatched t w n, h)
  progress_rewatched a g h trail watched more kept old = record {
    work = record {
      trail = trail;
      reasons = reasons_rewatched t clauses.db.now w n old.work.reasons;
      watched = watched;
      closed = old.work.closed;
      linked = record { variables = old.work.linked.variables; edges = old.work.linked.edges };
      room = old.work.room;
    };
    grown = record { vars = old.grown.vars; levels = old.grown.levels; longer = old.grown.longer; kept = old.grown.kept; added = old.grown.added };
    known = let known = old.known in omega (arith, known, more);
    last = λ k was. kept k (old.last k was);
    extended = old.extended;
    in_step = λ base step. step_rewatched t clauses.db.now w n (literals t.entries) clauses.links.now base h watched (old.in_step base step);
  }

  stopped_rewatched : (a : Assigned) (g h : Constraints) (u : Lit) → AreWatched (rewatched t w n) clauses.db.now
      → IsStopped clauses (a, g) u (t, h) → IsStopped clauses (a, g) u (rewatched t w n, h)
  stopped_rewatched a g h u watched old = record {
    reasons = reasons_rewatched t clauses.db.now w n old.reasons;
    watched = watched;
    grown = record { vars = old.grown.vars; levels = old.grown.levels; longer = old.grown.longer; kept = old.grown.kept; added = old.grown.added };
    extended = old.extended;
    last = record { place = old.last.place; is_last = old.last.is_last; is = old.last.is };
    refused = old.refused;
    lacks_last = λ base step. let lacks = old.lacks_last base step in record { some = lacks.some; step = step_rewatched t clauses.db.now w n _ clauses.links.now base h watched lacks.step };
  }

-- fewer literals count as propagated
module _ (t s : Assigned) (clauses : LinkedClauses) (a : Assigned) (g h : Constraints) (is : s ≡ rewatched t t.watching s.propagated) (le : s.propagated ≤ t.propagated) (trail : IsTrail s) where
  pub progress_rewound : IsProgress clauses (a, g) (t, h) → IsProgress clauses (a, g) (s, h)
  progress_rewound old =
      let n = s.propagated in
      subst (λ (x : Assigned). IsProgress clauses (a, g) (x, h)) (sym is)
      (progress_rewatched t clauses t.watching n a g h (subst IsTrail is trail) (watched_propagated t clauses.db.now n le old.work.watched)
      (omega arith) (λ k was. was) old)

  pub stop_rewound : (k : Stop) → HasStopped clauses (a, g) k (t, h) → HasStopped clauses (a, g) k (s, h)
  stop_rewound (stop.Clause c) old = (progress_rewound old.0, subst (λ (x : Assigned). IsConflict x clauses.db.now c) (sym is) (record { held = old.1.held; falsified = old.1.falsified }))
  stop_rewound (stop.Theory u) old =
      let n = s.propagated in
      subst (λ (x : Assigned). IsStopped clauses (a, g) u (x, h)) (sym is) (stopped_rewatched t clauses t.watching n a g h u (watched_propagated t clauses.db.now n le old.watched) old)
  stop_rewound stop.Memory old = progress_rewound old

-- what is told of a stop
module _ (clauses : LinkedClauses) (a : Assigned) (g : Constraints) (s : Assigned) (h : Constraints) where
  abbrev IsTold : {E : Type 0} → Result Reached E → Type 0
  IsTold (Ok reached.Quiet) = ⊥
  IsTold (Ok (reached.ClauseConflict c)) = IsProgress clauses (a, g) (s, h) × IsConflict s clauses.db.now c
  IsTold (Ok (reached.TheoryConflict u)) = IsStopped clauses (a, g) u (s, h)
  IsTold (Err y) = IsProgress clauses (a, g) (s, h)

  pub told : {E : Type 0} (r : Result Reached E) (k : Stop) → IfOk r (IsToldAs k) → OnErr r (k ≡ stop.Memory) → HasStopped clauses (a, g) k (s, h) → IsTold r
  told (Ok x) (stop.Clause c) is memory stopped = rw is stopped
  told (Ok x) (stop.Theory u) is memory stopped = rw is stopped
  told (Ok x) stop.Memory is memory stopped = absurd is
  told (Err y) k is memory stopped = rw memory at stopped

  pub told_not_quiet : {E : Type 0} (r : Result Reached E) (P : Type 0) → IsTold r → IfOk r (λ x. IfQuiet x P)
  told_not_quiet (Ok reached.Quiet) P is = absurd is
  told_not_quiet (Ok (reached.ClauseConflict c)) P is = tt
  told_not_quiet (Ok (reached.TheoryConflict u)) P is = tt
  told_not_quiet (Err y) P is = tt

  pub told_reasons : {E : Type 0} (r : Result Reached E) → IsTold r → HasReasons s clauses.db.now
  told_reasons (Ok reached.Quiet) is = absurd is
  told_reasons (Ok (reached.ClauseConflict c)) is = is.0.work.reasons
  told_reasons (Ok (reached.TheoryConflict u)) is = is.reasons
  told_reasons (Err y) is = is.work.reasons

  pub told_watched : {E : Type 0} (r : Result Reached E) → IsTold r → AreWatched s clauses.db.now
  told_watched (Ok reached.Quiet) is = absurd is
  told_watched (Ok (reached.ClauseConflict c)) is = is.0.work.watched
  told_watched (Ok (reached.TheoryConflict u)) is = is.watched
  told_watched (Err y) is = is.work.watched

  pub told_grown : {E : Type 0} (r : Result Reached E) → IsTold r → IsGrown a s
  told_grown (Ok reached.Quiet) is = absurd is
  told_grown (Ok (reached.ClauseConflict c)) is = is.0.grown
  told_grown (Ok (reached.TheoryConflict u)) is = is.grown
  told_grown (Err y) is = is.grown

  pub told_edges : {E : Type 0} (r : Result Reached E) → IsTold r → IsExtended g h
  told_edges (Ok reached.Quiet) is = absurd is
  told_edges (Ok (reached.ClauseConflict c)) is = is.0.extended
  told_edges (Ok (reached.TheoryConflict u)) is = is.extended
  told_edges (Err y) is = is.extended

  pub told_clause : {E : Type 0} (r : Result Reached E) → IsTold r → IfOk r (λ x. IfClause x (IsConflict s clauses.db.now))
  told_clause (Ok reached.Quiet) is = absurd is
  told_clause (Ok (reached.ClauseConflict c)) is = is.1
  told_clause (Ok (reached.TheoryConflict u)) is = tt
  told_clause (Err y) is = tt

  pub told_theory : {E : Type 0} (r : Result Reached E) → IsTold r → IfOk r (λ x. IfTheory x (λ l. IsLast s l × IsRefused clauses.links.now l h))
  told_theory (Ok reached.Quiet) is = absurd is
  told_theory (Ok (reached.ClauseConflict c)) is = tt
  told_theory (Ok (reached.TheoryConflict u)) is = (is.last, is.refused)
  told_theory (Err y) is = tt

  pub told_step : {E : Type 0} (r : Result Reached E) → IsTold r → IfOk r (λ x. UnlessTheory x ((base : List Edge) → InStep a clauses.db.now clauses.links.now base g → InStep s clauses.db.now clauses.links.now base h))
  told_step (Ok reached.Quiet) is = absurd is
  told_step (Ok (reached.ClauseConflict c)) is = is.0.in_step
  told_step (Ok (reached.TheoryConflict u)) is = tt
  told_step (Err y) is = tt

  pub told_lacks : {E : Type 0} (r : Result Reached E) → IsTold r → IfOk r (λ x. IfTheory x (λ _. (base : List Edge) → InStep a clauses.db.now clauses.links.now base g → LacksLast s clauses.db.now clauses.links.now base h))
  told_lacks (Ok reached.Quiet) is = absurd is
  told_lacks (Ok (reached.ClauseConflict c)) is = tt
  told_lacks (Ok (reached.TheoryConflict u)) is = is.lacks_last
  told_lacks (Err y) is = tt

  pub told_memory : {E : Type 0} (r : Result Reached E) → IsTold r → OnErr r ((base : List Edge) → InStep a clauses.db.now clauses.links.now base g → InStep s clauses.db.now clauses.links.now base h)
  told_memory (Ok x) is = tt
  told_memory (Err y) is = is.in_step

-- a fact that holds wherever propagation ended
pub unless_quiet : {E : Type 0} (r : Result Reached E) (P : Type 0) → P → IfOk r (λ x. UnlessQuiet x P)
unless_quiet (Ok reached.Quiet) P holds = tt
unless_quiet (Ok (reached.ClauseConflict c)) P holds = holds
unless_quiet (Ok (reached.TheoryConflict l)) P holds = holds
unless_quiet (Err y) P holds = tt

pub on_err : {T E : Type 0} (r : Result T E) (P : Type 0) → P → OnErr r P
on_err (Ok x) P holds = tt
on_err (Err y) P holds = holds
