-- The visits of the clauses that watch a literal which became false.
use Rattle.std.proofs.Common.{◌≡◌, ◌≢◌, ◌∙◌, ap, sym, subst, refl, ℕ, ◌+◌, ◌<◌, ◌≤◌, ◌⊎◌, inl, inr, List, [], ◌∷◌, ◌++◌, length, get_or, set, arith, Some}
use Rattle.std.specs.Prelude.{IsSome}
use Rattle.std.specs.List.{Contains, swap_remove}
use Rattle.std.proofs.lemmas.Bool.{cases_eq}
use Rattle.std.proofs.lemmas.List.{get_or_default}
use Rattle.std.proofs.lemmas.List.Elements.{All-contains}
use Rattle.difference_graph.specs.Graphs.{Constraints}
use Rattle.clause_db.specs.declared.lit.Lit.{Lit}
use Rattle.clause_db.specs.Literals.{negation}
use Rattle.clause_db.specs.Clauses.{clause_at}
use Rattle.propagate.specs.declared.linked_clauses.LinkedClauses.{LinkedClauses}
use Rattle.propagate.specs.declared.watch.Watch.{Watch}
use Rattle.propagate.specs.declared.visit.Visit.{Visit}
use Rattle.propagate.specs.declared.visit.Visit.TheVariants as visit
use Rattle.propagate.specs.Watching.{Watching, AreWatchedOf, IsListed, IsUnwatched, IsWatcherAt, listing, watch_at, watchers_of, watching}
use Rattle.propagate.specs.Trails.{Assigned, no_entry, entry_at, IsTrail, HasEntry, rewatched}
use Rattle.propagate.specs.Watched.{AreGuarded, AreTwoOf, AreWatched, IsTrueUpTo}
use Rattle.propagate.specs.Reach.{IsAtWork, IsGrown, IsProgress}
use Rattle.propagate.specs.Best.{AreLastToFall, AreLastToFallFrom, IsBest}
use Rattle.propagate.specs.Visits.{HasMoved, IsAmong, IsAssignedIfUnit, IsMoved, IsNextFalse, IsRewatched, IsUnmoved, IsVisited, place_after}
use Rattle.propagate.proofs.ClauseLemmas.{literal_held}
use Rattle.propagate.proofs.PlaceLemmas.{held_at, same_literal}
use Rattle.propagate.proofs.WatchingLemmas.{cases_lit}
use Rattle.propagate.proofs.WatchedLemmas.{guards_fewer, guards_longer, known_at}
use Rattle.propagate.proofs.GuardLemmas.{guard_next, guards_stay, other_in}
use Rattle.propagate.proofs.FallLemmas.{last_best, last_moved}
use Rattle.propagate.proofs.ReachLemmas.{grown_entry, last_grown, progress_rewatched}
use Rattle.propagate.proofs.VisitLemmas.{guards_moved, moved_anew, moved_listed, moved_off, moved_unwatched, moved_within, next_grown, progress_again, since_before, visited_moved, visited_stay}

-- the next literal to propagate is in range, and its level is that of its place
pub next_below : (t : Assigned) (f : Lit) → IsTrail t → IsNextFalse t f → f.var < t.vars
next_below t f trail next = rw next.is at (trail.below t.propagated no_entry next.more)

pub next_level : (t : Assigned) (f : Lit) (v n : ℕ) → IsTrail t → IsNextFalse t f → v ≡ f.var → HasEntry t.entries v (λ e. e.level ≡ n) → n ≡ (entry_at t.entries t.propagated).level
next_level t f v n trail next var found =
    let at = held_at t (negation f) v n trail var (literal_held t.entries t.propagated (negation f) next.more next.is) found in
    let same = same_literal t at.0 t.propagated (negation f) trail at.1 next.more at.2 next.is in
    sym at.3 ∙ ap (λ k. (entry_at t.entries k).level) same

-- a literal that isn't false since that level differs from the one that fell at it
pub best_apart : (t : Assigned) (f best denied : Lit) (n : ℕ) → IsNextFalse t f → n ≡ (entry_at t.entries t.propagated).level → denied ≡ negation best → (IsTrueUpTo t.entries n denied → ⊥) → best ≢ f
best_apart t f best denied n next level is later same = later (t.propagated, next.more, next.is ∙ ap negation (sym same) ∙ sym is, omega (arith, level))

-- a clause with watched literals is held
pub watched_held : (clauses : LinkedClauses) (t : Assigned) (g : Constraints) (c : ℕ) (f o : Lit)
    → IsAtWork clauses t g → AreWatchedOf t.watching c f o → c < length clauses.db.now
watched_held clauses t g c f o work both =
    let known = work.watched.known in
    let within = known_at t.watching.watches c both.0 both.1 in
    omega (arith, known, within)

-- the other watched literal of a clause is in range
pub other_below : (clauses : LinkedClauses) (t : Assigned) (g : Constraints) (c : ℕ) (f o : Lit)
    → IsAtWork clauses t g → IsNextFalse t f → AreWatchedOf t.watching c f o → o.var < t.vars
other_below clauses t g c f o work next both =
    let held = watched_held clauses t g c f o work both in
    All-contains (λ (l : Lit). l.var < t.vars) (clause_at clauses.db.now c) o (work.reasons.variables c [] held) (other_in t clauses.db.now c f o work.trail work.watched next both)

-- a clause that was watched still is
pub step_watched : (t s : Assigned) (f o best : Lit) (c : ℕ) → AreWatchedOf t.watching c f o
    → s ≡ rewatched t (listing t.watching best (watchers_of t.watching best ++ c ∷ [])) t.propagated → IsSome (watch_at s.watching c)
step_watched t s f o best c both added = rw (ap (λ (x : Assigned). x.watching.watches) added, both.1) refl

-- a clause that is moved, step by step
module _ (t : Assigned) (f o best : Lit) (c place : ℕ) (trail : IsTrail t) (in_range : best.var < t.vars) (next : IsNextFalse t f) (here : IsWatcherAt t.watching f place c) (both : AreWatchedOf t.watching c f o) (other_apart : o ≢ f)
    (apart : best ≢ f) (s : Assigned) (added : s ≡ rewatched t (listing t.watching best (watchers_of t.watching best ++ c ∷ [])) t.propagated) where
  abbrev p : Watch
  p = record { first = o; second = best }

  within : f.var < length t.watching.watchers
  within = let lists = trail.lists in omega (arith, lists, next_below t f trail next)

  second : best.var < length t.watching.watchers
  second = let lists = trail.lists in omega (arith, lists, in_range)

  known : c < length t.watching.watches
  known = known_at t.watching.watches c both.0 both.1

  lists_added : s.watching ≡ listing t.watching best (watchers_of t.watching best ++ c ∷ [])
  lists_added = ap (λ (x : Assigned). x.watching) added

  other_listed : Contains (watchers_of t.watching o) c
  other_listed =
      let listed = trail.listed c both.0 both.1 in
      elim both.2 [ inl at ↦ rw at.1 at listed.second | inr at ↦ rw at.1 at listed.first ]

  pub step_listed : IsListed s.watching c p
  step_listed = moved_listed t.watching s.watching (watching s.watching (set s.watching.watches c (Some p))) t.watching f p c place within second known apart here lists_added refl other_listed

  module _ (u : Assigned) (anew : u ≡ rewatched s (watching s.watching (set s.watching.watches c (Some p))) s.propagated) where
    lists_anew : u.watching ≡ watching s.watching (set s.watching.watches c (Some p))
    lists_anew = ap (λ (x : Assigned). x.watching) anew

    pub step_within : place < length (watchers_of u.watching f)
    step_within = moved_within t.watching s.watching u.watching t.watching f p c place within second known apart here lists_added lists_anew

    pub step_unwatched : IsUnwatched u.watching (get_or (watchers_of u.watching f) place 0) f
    step_unwatched = moved_unwatched t.watching s.watching u.watching t.watching f p c place within second known apart here lists_added lists_anew other_apart

    module _ (x : Assigned) (less : x ≡ rewatched u (listing u.watching f (swap_remove (watchers_of u.watching f) place 0)) u.propagated) where
      lists_less : x.watching ≡ listing u.watching f (swap_remove (watchers_of u.watching f) place 0)
      lists_less = ap (λ (y : Assigned). y.watching) less

      pub step_anew : IsRewatched t.watching x.watching c p
      step_anew = moved_anew t.watching s.watching u.watching x.watching f p c place within second known apart here lists_added lists_anew lists_less (rw both.1 refl)

      pub step_moved : IsMoved t.watching x.watching f p c place
      step_moved = moved_off t.watching s.watching u.watching x.watching f p c place within second known apart here lists_added lists_anew lists_less

-- the visit of a clause that watches the literal and another one
module _ (clauses : LinkedClauses) (t : Assigned) (g : Constraints) (s : Assigned) (h : Constraints) (u : Assigned) (c place : ℕ) (f o best : Lit) (work : IsAtWork clauses t g) (next : IsNextFalse t f)
    (here : IsWatcherAt t.watching f place c) (both : AreWatchedOf t.watching c f o)
    (is_best : IsBest t.entries (clause_at clauses.db.now c) (Some o) best) (progress : IsProgress clauses (t, g) (s, h)) (unmoved : IsUnmoved t s)
    (assigned_here : IsAssignedIfUnit t s o best)
    (is : u ≡ rewatched s u.watching s.propagated) (trail : IsTrail u) (anew : IsRewatched s.watching u.watching c (record { first = o; second = best })) where
  abbrev q : Watch
  q = record { first = o; second = best }

  two : AreTwoOf (clause_at clauses.db.now c) q
  two = record { differ = λ same. is_best.differs (ap (λ x. Some x) same); has_first = other_in t clauses.db.now c f o work.trail work.watched next both; has_second = is_best.has }

  guards : AreGuarded s.entries (t.propagated + 1) q
  guards = guards_moved t s clauses.db.now c f o best work.trail progress.work.trail work.watched next both progress.grown unmoved assigned_here

  last : (k : ℕ) → k ≤ c → AreLastToFallFrom k s clauses.db.now → AreLastToFall s.entries (length s.levels) (clause_at clauses.db.now c) q
  last k from was =
      let is_last = last_grown t s progress.grown (clause_at clauses.db.now c) best o (last_best t.entries (length t.levels) (clause_at clauses.db.now c) best o is_best) in
      last_moved t s clauses.db.now k c f o best work.trail progress.work.trail next assigned_here (subst (λ (w : Watching). AreWatchedOf w c f o) (sym unmoved.watching) both) from is_last is_best.has was

  pub best_progress : IsProgress clauses (t, g) (u, h)
  best_progress = progress_again clauses t s u g h c q is trail anew two (guards_fewer s.entries (t.propagated + 1) s.propagated q (let same = unmoved.propagated in omega (arith, same)) guards) last progress

  next_s : IsNextFalse s f
  next_s = next_grown t s f progress.grown unmoved.propagated next

  both_s : AreWatchedOf s.watching c f o
  both_s = subst (λ (w : Watching). AreWatchedOf w c f o) (sym unmoved.watching) both

  pub best_visited : (v : Visit) → HasMoved s u (record { clause = c; lit = f; place = place }) q v → IsVisited t u f c place (place_after v place)
  best_visited visit.Stayed (same, sooner) =
      let since = since_before t s clauses.db.now c f o best work.trail progress.work.trail work.watched next both progress.grown unmoved assigned_here sooner in
      let stay = guards_stay s clauses.db.now c f o progress.work.trail progress.work.watched next_s both_s since in
      visited_stay t u f c place (ap (λ (x : Assigned). x.propagated) same ∙ unmoved.propagated) (ap (λ (x : Assigned). x.watching) same ∙ unmoved.watching) here
      (subst (λ (x : Assigned). (p : Watch) → watch_at x.watching c ≡ Some p → AreGuarded x.entries (t.propagated + 1) p) (sym same) (rw unmoved.propagated at stay))
  best_visited visit.Moved moved = visited_moved t s u f c place q unmoved.propagated unmoved.watching is anew moved guards

-- what is left to visit
abbrev pub AreLeft : Assigned → Lit → ℕ → Type 0
AreLeft t f place = (d : ℕ) (p : Watch) → watch_at t.watching d ≡ Some p → AreGuarded t.entries (t.propagated + 1) p ⊎ IsAmong (watchers_of t.watching f) place d

pub left_first : (t : Assigned) (db : List (List Lit)) (f : Lit) → IsTrail t → AreWatched t db → IsNextFalse t f → AreLeft t f 0
left_first t db f trail watched next d p is =
    let listed = trail.listed d p is in
    let rule = watched.rule d p is in
    elim (cases_lit p.first f) [
      | inl same ↦ inr (among (rw same at listed.first))
      | inr apart ↦ elim (cases_lit p.second f) [
        | inl same ↦ inr (among (rw same at listed.second))
        | inr other ↦ inl (record { first = guard_next t f trail next p.first p.second apart rule.first; second = guard_next t f trail next p.second p.first other rule.second })
      ]
    ] where
      among : Contains (watchers_of t.watching f) d → IsAmong (watchers_of t.watching f) 0 d
      among (j, within, at) = (j, omega arith, within, get_or_default (watchers_of t.watching f) j 0 d within ∙ at)

pub left_visited : (t s : Assigned) (f : Lit) (c place after : ℕ) → IsNextFalse t f → IsGrown t s → IsVisited t s f c place after → AreLeft t f place → AreLeft s f after
left_visited t s f c place after next grown visited left d p is = elim (cases_eq d c) [
  | inl same ↦ inl (rw visited.propagated (visited.guarded p (ap (watch_at s.watching) (sym same) ∙ is)))
  | inr other ↦ elim (left d p (sym (visited.others d other) ∙ is)) [
    | inl kept ↦ inl (rw visited.propagated (guards_longer t.entries s.entries grown.longer (λ k within. grown_entry t s k grown within) (t.propagated + 1) p (let more = next.more in omega (arith, more)) kept))
    | inr among ↦ inr (visited.left d other among)
  ]
]

-- where nothing is left, the literal is propagated
pub progress_next : (clauses : LinkedClauses) (a t s : Assigned) (g h : Constraints) (f : Lit) (place : ℕ)
    → IsProgress clauses (a, g) (t, h) → AreLeft t f place → length (watchers_of t.watching f) ≤ place
    → s ≡ rewatched t t.watching (t.propagated + 1) → IsTrail s → IsProgress clauses (a, g) (s, h)
progress_next clauses a t s g h f place old left end is trail =
    subst (λ (x : Assigned). IsProgress clauses (a, g) (x, h)) (sym is) (progress_rewatched t clauses t.watching (t.propagated + 1) a g h (subst IsTrail is trail) watched (omega arith) (λ k was. was) old) where
      watched : AreWatched (rewatched t t.watching (t.propagated + 1)) clauses.db.now
      watched = record {
        known = old.work.watched.known;
        two = old.work.watched.two;
        short = old.work.watched.short;
        rule = λ c p at. elim (left c p at) [
          | inl kept ↦ kept
          | inr among ↦ let le = among.1 in let within = among.2 in absurd (omega (arith, le, within, end))
        ];
        satisfied = old.work.watched.satisfied;
      }
