-- Laws of what is in step.
use Rattle.std.proofs.Common.{◌≢◌, ap, ℕ, suc, ◌+◌, ◌<◌, ◌≤◌, List, [], ◌∷◌, ◌++◌, length, get_or, arith, Option, Some, None, length-append}
use Rattle.std.specs.Prelude.{filter_map, IsSome, true}
use Rattle.std.specs.List.{All, AllPairs, cons_option}
use Rattle.std.proofs.lemmas.List.{get_or_append_left, length_push, length-map}
use Rattle.std.proofs.lemmas.List.Elements.{All-push, All-weaker}
use Rattle.neg_cycle.specs.declared.system.Edge.{Edge}
use Rattle.difference_graph.specs.Graphs.{Constraints}
use Rattle.clause_db.specs.declared.lit.Lit.{Lit}
use Rattle.propagate.specs.declared.entry.Entry.{Entry}
use Rattle.propagate.specs.Links.{edge_of, edges_at, edges_of}
use Rattle.propagate.specs.Trails.{Assigned, literals, IsTrail, IsUnassigned, followed}
use Rattle.propagate.specs.Clauses.{HasReasons}
use Rattle.propagate.specs.Steps.{IsInStep, InStep}
use Rattle.propagate.specs.Laws.{AddedClauseKeepsStep, StepHoldsMarks, RoomForAllIsRoom}
use Rattle.propagate.proofs.WatchedLemmas.{watched_added}
use Rattle.propagate.proofs.TrailLemmas.{few_literals, trail_followed}
use Rattle.propagate.proofs.StepLemmas.{step_marks, lacks_marks}

reasons_added : (t : Assigned) (db : List (List Lit)) (clause : List Lit) → All (λ l. l.var < t.vars) clause → HasReasons t db → HasReasons t (db ++ clause ∷ [])
reasons_added t db clause below old = record {
  variables = All-push (All (λ (l : Lit). l.var < t.vars)) db clause old.variables below;
  reasons = λ k c within is.
      let why = old.reasons k c within is in
      record {
        held = let held = why.held in omega (arith, held, length_push db clause);
        leaves = rw (get_or_append_left db (clause ∷ []) [] c why.held) why.leaves;
      };
}

step_added : (held : List Lit) (t : Assigned) (db : List (List Lit)) (clause : List Lit) (links : List (Option (Edge × Edge))) (base : List Edge) (g : Constraints) → All (λ l. l.var < t.vars) clause
    → IsInStep held t db links base g → IsInStep held t (db ++ clause ∷ []) links base g
step_added held t db clause links base g below step = record {
  reasons = reasons_added t db clause below step.reasons;
  watched = watched_added t db clause step.watched;
  linked = step.linked;
  edges = step.edges;
  marks = step.marks;
}

pub added_clause_keeps : AddedClauseKeepsStep
added_clause_keeps = record {
  in_step = λ t db clause links base g below step. step_added (literals t.entries) t db clause links base g below step;
  lacks_last = λ t db clause links base g below lacks. record { some = lacks.some; step = step_added _ t db clause links base g below lacks.step };
}

pub step_holds : StepHoldsMarks
step_holds = record { in_step = step_marks; lacks_last = lacks_marks }

cons_length : {X : Type 0} (r : Option X) (xs : List X) → length (cons_option r xs) ≤ length xs + 1
cons_length None xs = omega arith
cons_length (Some x) xs = omega arith

few_kept : {X Y : Type 0} (f : X → Option Y) (xs : List X) → length (filter_map f xs) ≤ length xs
few_kept f [] = omega arith
few_kept f (x ∷ xs) = let rest = few_kept f xs in let one = cons_length (f x) (filter_map f xs) in omega (arith, rest, one)

-- different unassigned variables and the literals are no more than the variables
unset_few : (vars : List ℕ) (t : Assigned) → IsTrail t → AllPairs (λ v w. v ≢ w) vars → All (λ v. (v < t.vars) × IsUnassigned t.entries v) vars → length t.entries + length vars ≤ t.vars
unset_few [] t trail apart unset = let most = few_literals t trail in omega (arith, most)
unset_few (v ∷ vars) t trail apart unset =
    let u : Lit = record { var = v; positive = true } in
    let e : Entry = record { lit = u; level = length t.levels; reason = Some 0 } in
    let here = unset 0 v (omega arith) in
    let more = unset_few vars (followed t u 0) (trail_followed t u 0 trail here.0 here.1) (λ i j d less within. apart (suc i) (suc j) d (omega (arith, less)) (omega (arith, within)))
    (λ k d within.
    let later = unset (suc k) d (omega (arith, within)) in
    (later.0, All-push (λ (x : Entry). x.lit.var ≢ get_or vars k d) t.entries e later.1 (apart 0 (suc k) d (omega arith) (omega (arith, within))))) in
    omega (arith, more, length_push t.entries e)

-- the held edges are no more than those of the base and the literals
edges_few : (t : Assigned) (db : List (List Lit)) (links : List (Option (Edge × Edge))) (base : List Edge) (g : Constraints)
    → InStep t db links base g → length g.edges ≤ length base + length t.entries
edges_few t db links base g step =
    let kept = few_kept (edge_of links) (literals t.entries) in
    omega (arith, kept, ap length step.edges, length-append base (edges_of links (literals t.entries)), length-map t.entries (λ (e : Entry). e.lit))

pub room_for_all : RoomForAllIsRoom
room_for_all = record {
  each = λ t db links base g trail step most vars apart unset.
      let edges = edges_few t db links base g step in
      let count =
      unset_few vars t trail apart (All-weaker (λ v. (v < t.vars) × IsUnassigned t.entries v × IsSome (edges_at links v))
      (λ v. (v < t.vars) × IsUnassigned t.entries v) (λ v is. (is.0, is.1)) vars unset) in
      omega (arith, edges, count, most);
  next = λ t db links base g v trail step most below free.
      let edges = edges_few t db links base g step in
      let u : Lit = record { var = v; positive = true } in
      let count = few_literals (followed t u 0) (trail_followed t u 0 trail below free) in
      omega (arith, edges, count, most, length_push t.entries (record { lit = u; level = length t.levels; reason = Some 0 }));
}
