-- Trail, clauses, links and graph in step, as literals are assigned and levels are undone.
use Rattle.std.proofs.Common.{◌≡◌, ◌∙◌, ap, sym, subst, refl, ℕ, ◌+◌, ◌-◌, ◌<◌, ◌≤◌, inl, inr, List, [], ◌∷◌, ◌++◌, length, take, drop, arith, Option, Some, None, append_assoc, length-append}
use Rattle.std.specs.Prelude.{option_to_list}
use Rattle.std.specs.List.{cons_option}
use Rattle.std.proofs.lemmas.List.{take-append-le, take_at, take-take, take-append-drop, length_push, length-take, map-append, get_or-take}
use Rattle.std.proofs.lemmas.List.Elements.{filter_map-append}
use Rattle.neg_cycle.specs.declared.system.Edge.{Edge}
use Rattle.difference_graph.specs.Graphs.{Constraints, HasSameLimits}
use Rattle.clause_db.specs.declared.lit.Lit.{Lit}
use Rattle.propagate.specs.declared.entry.Entry.{Entry}
use Rattle.propagate.specs.declared.entry.Level.{Level}
use Rattle.propagate.specs.Links.{edge_of, edges_of}
use Rattle.propagate.specs.Trails.{Assigned, no_entry, start_of, mark_of, literals, IsTrail, AreLevels, followed, decided, cut_to}
use Rattle.propagate.specs.Clauses.{HasReasons, IsReason}
use Rattle.propagate.specs.Steps.{IsLinked, HasMarks, IsInStep, InStep, LacksLast, AreMarksHeld}
use Rattle.propagate.proofs.TrailLemmas.{cases_push, cut_at, cut_is_at, old_entry, new_entry, old_start, new_start, old_mark, new_mark, rising, at_start, at_mark}
use Rattle.propagate.proofs.WatchedLemmas.{watched_cut, watched_push}

-- a front of a list that grew
pub front_kept : (xs : List Entry) (e : Entry) (k : ℕ) → k ≤ length xs → literals (take k (xs ++ e ∷ [])) ≡ literals (take k xs)
front_kept xs e k le = ap literals_of (take-append-le k xs (e ∷ []) le) where
  literals_of : List Entry → List Lit
  literals_of ys = literals ys

-- the literals without the last
pub but_last : (xs : List Entry) (e : Entry) → literals (take (length (xs ++ e ∷ []) - 1) (xs ++ e ∷ [])) ≡ literals xs
but_last xs e = ap (λ (ys : List Entry). literals ys) (take_at xs (e ∷ []) (length (xs ++ e ∷ []) - 1) (omega (arith, length_push xs e)))

module _ (links : List (Option (Edge × Edge))) where
  edges_one : (u : Lit) → edges_of links (u ∷ []) ≡ option_to_list (edge_of links u)
  edges_one u = one (edge_of links u) where
    one : (r : Option Edge) → cons_option r [] ≡ option_to_list r
    one None = refl
    one (Some e) = refl

  -- the edges with those of one more literal
  pub edges_push : (lits : List Lit) (u : Lit) → edges_of links (lits ++ u ∷ []) ≡ edges_of links lits ++ option_to_list (edge_of links u)
  edges_push lits u = filter_map-append (edge_of links) lits (u ∷ []) ∙ ap (λ (es : List Edge). edges_of links lits ++ es) (edges_one u)

  pub edges_entry : (xs : List Entry) (e : Entry) → edges_of links (literals (xs ++ e ∷ [])) ≡ edges_of links (literals xs) ++ option_to_list (edge_of links e.lit)
  edges_entry xs e = ap (λ (ls : List Lit). edges_of links ls) (map-append (λ (x : Entry). x.lit) xs (e ∷ [])) ∙ edges_push (literals xs) e.lit

  -- the edges of a front, and those behind it
  edges_split : (held : List Entry) (n : ℕ) → edges_of links (literals held) ≡ edges_of links (literals (take n held)) ++ edges_of links (literals (drop n held))
  edges_split held n =
      ap (λ (ys : List Entry). edges_of links (literals ys)) (sym (take-append-drop n held))
      ∙ ap (λ (ls : List Lit). edges_of links ls) (map-append (λ (x : Entry). x.lit) (take n held) (drop n held))
      ∙ filter_map-append (edge_of links) (literals (take n held)) (literals (drop n held))

  pub edges_front : (base : List Edge) (held : List Entry) (n : ℕ)
      → take (length base + length (edges_of links (literals (take n held)))) (base ++ edges_of links (literals held)) ≡ base ++ edges_of links (literals (take n held))
  edges_front base held n =
      let front = edges_of links (literals (take n held)) in
      let behind = edges_of links (literals (drop n held)) in
      let split : base ++ edges_of links (literals held) ≡ (base ++ front) ++ behind = ap (λ (es : List Edge). base ++ es) (edges_split held n) ∙ sym (append_assoc base front behind) in
      ap (λ (es : List Edge). take (length base + length front) es) split ∙ take_at (base ++ front) behind (length base + length front) (length-append base front)

  pub fewer_edges : (held : List Entry) (n : ℕ) → length (edges_of links (literals (take n held))) ≤ length (edges_of links (literals held))
  fewer_edges held n =
      let parts = length-append (edges_of links (literals (take n held))) (edges_of links (literals (drop n held))) in
      omega (arith, ap length (edges_split held n), parts)

  -- marks after one more literal
  marks_push : (base : List Edge) (t : Assigned) (e : Entry) (levels : AreLevels t.entries t.levels) → HasMarks t links base
      → HasMarks (record { vars = t.vars; entries = t.entries ++ e ∷ []; levels = t.levels; watching = t.watching; propagated = t.propagated }) links base
  marks_push base t e levels marks j op =
      let low = levels.within j op in
      rw (front_kept t.entries e (start_of t.levels j) (omega (arith, low))) (marks j op)

  -- marks after one more level, with its decision
  marks_open : (base : List Edge) (t : Assigned) (e : Entry) (l : Level) (levels : AreLevels t.entries t.levels) → HasMarks t links base
      → l.start ≡ length t.entries → l.mark ≡ length base + length (edges_of links (literals t.entries))
      → HasMarks (record { vars = t.vars; entries = t.entries ++ e ∷ []; levels = t.levels ++ l ∷ []; watching = t.watching; propagated = t.propagated }) links base
  marks_open base t e l levels marks start mark j op = elim (cases_push t.levels l j op) [
    | inl a ↦
        let low = levels.within j a in
        rw (old_mark t.levels l j a, old_start t.levels l j a, front_kept t.entries e (start_of t.levels j) (omega (arith, low))) (marks j a)
    | inr a ↦ rw (new_mark t.levels l j a, new_start t.levels l j a, start, take_at t.entries (e ∷ []) (length t.entries) refl) mark
  ]

-- the reasons after one more literal
reasons_push : (t : Assigned) (db : List (List Lit)) (e : Entry) (levels : List Level) → HasReasons t db → ((c : ℕ) → e.reason ≡ Some c → IsReason db (literals t.entries) e.lit c)
    → HasReasons (record { vars = t.vars; entries = t.entries ++ e ∷ []; levels = levels; watching = t.watching; propagated = t.propagated }) db
reasons_push t db e levels old why = record {
  variables = old.variables;
  reasons = λ k c within is. elim (cases_push t.entries e k within) [
    | inl b ↦ rw (old_entry t.entries e k b, front_kept t.entries e k (omega (arith, b))) (old.reasons k c b (rw (old_entry t.entries e k b) at is))
    | inr b ↦ rw (new_entry t.entries e k b, b, take_at t.entries (e ∷ []) (length t.entries) refl) (why c (rw (new_entry t.entries e k b) at is))
  ];
}

pub reasons_followed : (t : Assigned) (db : List (List Lit)) (u : Lit) (c : ℕ) → HasReasons t db → IsReason db (literals t.entries) u c → HasReasons (followed t u c) db
reasons_followed t db u c old why =
    reasons_push t db (record { lit = u; level = length t.levels; reason = Some c }) t.levels old (λ d is. let same : c ≡ d = some_same is in subst (λ (x : ℕ). IsReason db (literals t.entries) u x) same why) where
      some_same : {a b : ℕ} → Some a ≡ Some b → a ≡ b
      some_same e = cc

reasons_decided : (t : Assigned) (db : List (List Lit)) (u : Lit) (mark : ℕ) → HasReasons t db → HasReasons (decided t u mark) db
reasons_decided t db u mark old =
    reasons_push t db (record { lit = u; level = length t.levels + 1; reason = None }) (t.levels ++ record { start = length t.entries; mark = mark } ∷ []) old (λ d is. absurd (none_some is)) where
      none_some : {b : ℕ} → None ≡ Some b → ⊥
      none_some e = cc

pub linked_same : (t s : Assigned) (links : List (Option (Edge × Edge))) (g h : Constraints) → s.vars ≡ t.vars → HasSameLimits g h → IsLinked t links g → IsLinked s links h
linked_same t s links g h vars limits old = record {
  variables = rw vars old.variables;
  edges = λ l. rw limits.nodes (old.edges l);
}

module _ (t : Assigned) (db : List (List Lit)) (links : List (Option (Edge × Edge))) (base : List Edge) (g h : Constraints) (trail : IsTrail t) (limits : HasSameLimits g h) (old : InStep t db links base g) where
  edges_more : (e : Entry) → h.edges ≡ g.edges ++ option_to_list (edge_of links e.lit) → h.edges ≡ base ++ edges_of links (literals (t.entries ++ e ∷ []))
  edges_more e kept =
      kept ∙ ap (λ (es : List Edge). es ++ option_to_list (edge_of links e.lit)) old.edges
      ∙ append_assoc base (edges_of links (literals t.entries)) (option_to_list (edge_of links e.lit))
      ∙ ap (λ (es : List Edge). base ++ es) (sym (edges_entry links t.entries e))

  -- a literal that follows, with its edge or without
  pub step_followed : (u : Lit) (c : ℕ) → IsReason db (literals t.entries) u c → h.edges ≡ g.edges ++ option_to_list (edge_of links u) → InStep (followed t u c) db links base h
  step_followed u c why kept =
      let e : Entry = record { lit = u; level = length t.levels; reason = Some c } in
      record {
        reasons = reasons_followed t db u c old.reasons why;
        watched = watched_push t db e t.levels trail old.watched;
        linked = linked_same t (followed t u c) links g h refl limits old.linked;
        edges = edges_more e kept;
        marks = marks_push links base t e trail.levels old.marks;
      }

  pub lacks_followed : (u : Lit) (c : ℕ) → IsReason db (literals t.entries) u c → h.edges ≡ g.edges → LacksLast (followed t u c) db links base h
  lacks_followed u c why same =
      let e : Entry = record { lit = u; level = length t.levels; reason = Some c } in
      record {
        some = omega (arith, length_push t.entries e);
        step = record {
          reasons = reasons_followed t db u c old.reasons why;
          watched = watched_push t db e t.levels trail old.watched;
          linked = linked_same t (followed t u c) links g h refl limits old.linked;
          edges = rw (but_last t.entries e) (same ∙ old.edges);
          marks = marks_push links base t e trail.levels old.marks;
        };
      }

  mark_is : length g.edges ≡ length base + length (edges_of links (literals t.entries))
  mark_is = ap length old.edges ∙ length-append base (edges_of links (literals t.entries))

  -- a decision, with its edge or without
  pub step_decided : (u : Lit) → h.edges ≡ g.edges ++ option_to_list (edge_of links u) → InStep (decided t u (length g.edges)) db links base h
  step_decided u kept =
      let e : Entry = record { lit = u; level = length t.levels + 1; reason = None } in
      record {
        reasons = reasons_decided t db u (length g.edges) old.reasons;
        watched = watched_push t db e (t.levels ++ record { start = length t.entries; mark = length g.edges } ∷ []) trail old.watched;
        linked = linked_same t (decided t u (length g.edges)) links g h refl limits old.linked;
        edges = edges_more e kept;
        marks = marks_open links base t e (record { start = length t.entries; mark = length g.edges }) trail.levels old.marks refl mark_is;
      }

  pub lacks_decided : (u : Lit) → h.edges ≡ g.edges → LacksLast (decided t u (length g.edges)) db links base h
  lacks_decided u same =
      let e : Entry = record { lit = u; level = length t.levels + 1; reason = None } in
      record {
        some = omega (arith, length_push t.entries e);
        step = record {
          reasons = reasons_decided t db u (length g.edges) old.reasons;
          watched = watched_push t db e (t.levels ++ record { start = length t.entries; mark = length g.edges } ∷ []) trail old.watched;
          linked = linked_same t (decided t u (length g.edges)) links g h refl limits old.linked;
          edges = rw (but_last t.entries e) (same ∙ old.edges);
          marks = marks_open links base t e (record { start = length t.entries; mark = length g.edges }) trail.levels old.marks refl mark_is;
        };
      }

-- marks are within the edges of what is held, if that reaches as far as the level
marks_within : (held : List Entry) (t : Assigned) (db : List (List Lit)) (links : List (Option (Edge × Edge))) (base : List Edge) (g : Constraints) → IsInStep (literals held) t db links base g
    → ((n : ℕ) → n < length t.entries → take n t.entries ≡ take n held) → IsTrail t → AreMarksHeld t g
marks_within held t db links base g step front trail j op =
    let n = start_of t.levels j in
    let mark = step.marks j op in
    let shorter = rw (← (front n (trail.levels.within j op))) at (fewer_edges links held n) in
    let count = ap length step.edges ∙ length-append base (edges_of links (literals held)) in
    omega (arith, mark, shorter, count)

take_but_last : (xs : List Entry) (n : ℕ) → n < length xs → take n xs ≡ take n (take (length xs - 1) xs)
take_but_last xs n less = sym (take-take n (length xs - 1) xs (omega (arith, less)))

pub step_marks : (t : Assigned) (db : List (List Lit)) (links : List (Option (Edge × Edge))) (base : List Edge) (g : Constraints) → IsTrail t → InStep t db links base g → AreMarksHeld t g
step_marks t db links base g trail step = marks_within t.entries t db links base g step (λ n less. refl) trail

pub lacks_marks : (t : Assigned) (db : List (List Lit)) (links : List (Option (Edge × Edge))) (base : List Edge) (g : Constraints) → IsTrail t → LacksLast t db links base g → AreMarksHeld t g
lacks_marks t db links base g trail lacks = marks_within (take (length t.entries - 1) t.entries) t db links base g lacks.step (take_but_last t.entries) trail

-- levels undone, where what is held reaches as far as the lowest of them
module _ (held : List Entry) (t : Assigned) (db : List (List Lit)) (links : List (Option (Edge × Edge))) (base : List Edge) (g h : Constraints) (m : ℕ) (op : m < length t.levels) (trail : IsTrail t)
    (limits : HasSameLimits g h) (front : (n : ℕ) → n < length t.entries → take n t.entries ≡ take n held) (popped : h.edges ≡ take (mark_of t.levels m) g.edges) (step : IsInStep (literals held) t db links base g) where
  abbrev n : ℕ
  n = start_of t.levels m

  abbrev s : Assigned
  s = cut_at m t

  few : (k : ℕ) → k < length (take n t.entries) → (k < n) × (k < length t.entries)
  few k within = let short = length-take n t.entries in (omega (arith, short, within), omega (arith, short, within))

  lower : (j : ℕ) → j < length (take m t.levels) → j < m
  lower j within = omega (arith, length-take m t.levels, within)

  held_front : take n t.entries ≡ take n held
  held_front = front n (trail.levels.within m op)

  edges_cut : h.edges ≡ base ++ edges_of links (literals (take n t.entries))
  edges_cut =
      popped ∙ ap (λ k. take k g.edges) (step.marks m op) ∙ ap (λ (es : List Edge). take (length base + length (edges_of links (literals (take n t.entries)))) es) step.edges
      ∙ rw (← held_front) at (edges_front links base held n)

  cut_step : InStep s db links base h
  cut_step = record {
    reasons = record {
      variables = step.reasons.variables;
      reasons = λ k c within is.
          let here = few k within in
          let at = get_or-take n t.entries k no_entry here.0 in
          rw (at, take-take k n t.entries (omega (arith, here.0))) (step.reasons.reasons k c here.1 (rw at at is));
    };
    watched = watched_cut t db m op trail step.watched;
    linked = linked_same t s links g h refl limits step.linked;
    edges = edges_cut;
    marks = λ j within.
        let less = lower j within in
        let before = rising t.entries t.levels j m trail.levels less op in
        rw (at_mark t.entries t.levels m op trail.levels j less, at_start t.entries t.levels m op trail.levels j less, take-take (start_of t.levels j) n t.entries (omega (arith, before)))
        (step.marks j (omega (arith, less, op)));
  }

  step_undone : InStep (cut_to m t) db links base h
  step_undone = subst (λ (x : Assigned). InStep x db links base h) (cut_is_at t m op trail) cut_step

pub step_cut : (t : Assigned) (db : List (List Lit)) (links : List (Option (Edge × Edge))) (base : List Edge) (g h : Constraints) (m : ℕ) → m < length t.levels → IsTrail t → HasSameLimits g h
    → h.edges ≡ take (mark_of t.levels m) g.edges → InStep t db links base g → InStep (cut_to m t) db links base h
step_cut t db links base g h m op trail limits popped step = step_undone t.entries t db links base g h m op trail limits (λ n less. refl) popped step

pub lacks_cut : (t : Assigned) (db : List (List Lit)) (links : List (Option (Edge × Edge))) (base : List Edge) (g h : Constraints) (m : ℕ) → m < length t.levels → IsTrail t → HasSameLimits g h
    → h.edges ≡ take (mark_of t.levels m) g.edges → LacksLast t db links base g → InStep (cut_to m t) db links base h
lacks_cut t db links base g h m op trail limits popped lacks =
    step_undone (take (length t.entries - 1) t.entries) t db links base g h m op trail limits (take_but_last t.entries) popped lacks.step
