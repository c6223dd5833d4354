-- What is done with a clause that is attached or visited.
use Rattle.std.proofs.Common.{◌≡◌, ◌≢◌, ◌∙◌, ap, sym, subst, refl, ℕ, ◌+◌, ◌<◌, ◌≤◌, ◌⊎◌, inl, inr, List, [], ◌∷◌, ◌++◌, length, get_or, arith, Option, Some, None, Result, Ok, Err, get_or-set_same, get_or-set_other, set, length-set}
use Rattle.std.specs.Prelude.{IsSome, OnOk}
use Rattle.std.specs.List.{All, Any, Contains, swap_remove}
use Rattle.std.proofs.lemmas.Bool.{cases_eq}
use Rattle.std.proofs.lemmas.List.{get_or_default, length_push}
use Rattle.std.proofs.lemmas.List.Elements.{All-from_get_or, All-weaker}
use Rattle.difference_graph.specs.Graphs.{Constraints}
use Rattle.hint_refutation.specs.Hints.{LeavesOnly}
use Rattle.hint_refutation.specs.Propagation.{IsSettled}
use Rattle.clause_db.specs.declared.lit.Lit.{Lit}
use Rattle.clause_db.specs.Literals.{negation}
use Rattle.clause_db.specs.Clauses.{clause_at}
use Rattle.propagate.specs.declared.linked_clauses.LinkedClauses.{LinkedClauses}
use Rattle.propagate.specs.declared.watch.Watch.{Watch}
use Rattle.propagate.specs.declared.stop.Stop.{Stop}
use Rattle.propagate.specs.Watching.{Watching, unwatched, AreWatchedOf, IsListed, IsUnwatched, IsWatcherAt, listing, lists_at, satisfying, watch_at, with_list, watchers_of, watching}
use Rattle.propagate.specs.Trails.{Assigned, entry_at, literals, up_to, IsTrail, rewatched}
use Rattle.propagate.specs.Watched.{AreAllWatched, AreGuarded, AreTwoOf, AreWatched, IsTrueAt, IsTrueUpTo}
use Rattle.propagate.specs.Clauses.{AreSettled}
use Rattle.propagate.specs.Closed.{Closed}
use Rattle.propagate.specs.Reach.{IsGrown, IsProgress, IsReached}
use Rattle.propagate.specs.Best.{AreBest, AreFalseUpTo, AreLastToFall, AreLastToFallFrom, IsBest}
use Rattle.propagate.specs.Visits.{AreShortSatisfied, IsAmong, IsAssignedIfUnit, IsSatisfiedIfShort, IsMoved, IsNextFalse, IsRewatched, IsUnmoved, IsVisited}
use Rattle.propagate.proofs.ClauseLemmas.{literal_at, literal_held}
use Rattle.propagate.proofs.PlaceLemmas.{cases_contains, same_literal, up_to_held, up_to_here, up_to_top}
use Rattle.propagate.proofs.UnwatchedLemmas.{unwatched_has, unwatched_none, unwatched_below, unwatched_set}
use Rattle.propagate.proofs.WatchingLemmas.{cases_attached, listed_elsewhere, listed_here, listed_more, listed_new, removed_left, removed_length}
use Rattle.propagate.proofs.WatchedLemmas.{guard_fewer, watched_again, watched_lists, watched_satisfied, watched_up}
use Rattle.propagate.proofs.GuardLemmas.{guard_beside, guard_next, guard_open, guard_true, guards_best, other_apart, rule_of_other, two_best}
use Rattle.propagate.proofs.FallLemmas.{both_last_best}
use Rattle.propagate.proofs.ReachLemmas.{both_last_grown, grown_entry, progress_rewatched}
use Rattle.std.proofs.lemmas.Option.{same_Some}

-- the literals stay
pub held_grown : (t s : Assigned) (l : Lit) → IsGrown t s → Contains (literals t.entries) l → Contains (literals s.entries) l
held_grown t s l grown has =
    let at = literal_at t.entries l has in
    let longer = grown.longer in
    let within = at.0 in
    literal_held s.entries has.0 l (omega (arith, within, longer)) (ap (λ e. e.lit) (grown_entry t s has.0 grown within) ∙ at.1)

-- a clause that leaves a literal which is false is false
pub leaves_false : (set clause : List Lit) (l : Lit) → LeavesOnly negation set clause l → Contains set (negation l) → All (λ x. Contains set (negation x)) clause
leaves_false set clause l leaves held = All-weaker (λ (x : Lit). (x ≡ l) ⊎ Contains set (negation x)) (λ (x : Lit). Contains set (negation x)) weaker clause leaves.others_false where
  weaker : (x : Lit) → (x ≡ l) ⊎ Contains set (negation x) → Contains set (negation x)
  weaker x (inl same) = rw same held
  weaker x (inr here) = here

-- where the best literal is false, and the one beside it was made true
module _ (clauses : LinkedClauses) (t : Assigned) (g : Constraints) (s : Assigned) (h : Constraints) (clause : List Lit) (l best : Lit) (n : ℕ) (is_best : IsBest t.entries clause (Some l) best)
    (at : IsTrueAt t.entries (negation best) n) where
  assigned : IsProgress clauses (t, g) (s, h) → Contains (literals s.entries) l → ((m : ℕ) → AreFalseUpTo t.entries m clause (Some l) → IsTrueUpTo s.entries m l) → IsAssignedIfUnit t s l best
  assigned progress made since = inr (
    made,
    λ j less is.
        let longer = progress.grown.longer in
        let k_in : at.0 < length s.entries = let within = at.1 in omega (arith, within, longer) in
        let kept = grown_entry t s at.0 progress.grown at.1 in
        let same = same_literal s j at.0 (negation best) progress.work.trail less k_in is (ap (λ e. e.lit) kept ∙ at.2) in
        rw (same, kept) (since (entry_at t.entries at.0).level (is_best.last at.0 at.1 at.2)),
  )

  pub assigned_if_ok : {T : Type 0} (r : Result T Stop) → IsReached clauses (t, g) r (s, h) → OnOk r (Contains (literals s.entries) l)
      → OnOk r ((m : ℕ) → AreFalseUpTo t.entries m clause (Some l) → IsTrueUpTo s.entries m l) → OnOk r (IsAssignedIfUnit t s l best)
  assigned_if_ok (Ok x) progress made since = assigned progress made since
  assigned_if_ok (Err k) stopped made since = tt

-- two different literals make two
two_apart : (clause : List Lit) (k l : Lit) → Contains clause k → Contains clause l → length clause < 2 → k ≡ l
two_apart clause k l (i, in_i, is_i) (j, in_j, is_j) short =
    let first : i ≡ 0 = omega (arith, in_i, short) in
    let second : j ≡ 0 = omega (arith, in_j, short) in
    sym is_i ∙ ap (λ n. get_or clause n k) first ∙ get_or_default clause 0 k l (omega (arith, in_i)) ∙ ap (λ n. get_or clause n l) (sym second) ∙ is_j

-- above level 0 the clauses of fewer than two literals are satisfied
pub short_satisfied : (t : Assigned) (db : List (List Lit)) → IsTrail t → Closed t db → 0 < length t.levels → AreShortSatisfied t db
short_satisfied t db trail closed op c held short = met_so (closed 0 op c [] held) where
  met_so : IsSettled negation (literals (up_to 0 t.entries)) (clause_at db c) → Any (Contains (literals t.entries)) (clause_at db c)
  met_so (inl (k, x, within, is, here)) = (k, x, within, is, up_to_held t.entries 0 x (up_to_here t.entries t.levels 0 op trail.levels x here))
  met_so (inr two) = absurd (two.differ (two_apart (clause_at db c) two.one two.other two.has_one two.has_other short))

-- where those of which no two literals are watched count as satisfied, all short ones are
pub all_short_satisfied : (t : Assigned) (db : List (List Lit)) → AreWatched t db → length db ≤ length t.watching.watches
    → length (unwatched t.watching.watches) ≤ t.watching.satisfied → AreShortSatisfied t db
all_short_satisfied t db watched known all c held short = by_watch (watch_at t.watching c) refl where
  by_watch : (r : Option Watch) → watch_at t.watching c ≡ r → Any (Contains (literals t.entries)) (clause_at db c)
  by_watch None none =
      let at = unwatched_has t.watching.watches c (omega (arith, held, known)) none in
      let within = at.1 in
      let since = watched.satisfied at.0 (omega (arith, within, all)) within in
      let any = rw at.2 at since in
      (any.0, any.1, any.2, any.3, up_to_held t.entries 0 any.1 any.4)
  by_watch (Some p) is = let two = watched.two c p is in absurd (two.differ (two_apart (clause_at db c) p.first p.second two.has_first two.has_second short))

-- at level 0 a short clause that was satisfied counts as such
pub progress_satisfied : (clauses : LinkedClauses) (a t s : Assigned) (g h : Constraints) (c : ℕ)
    → IsProgress clauses (a, g) (t, h) → length t.levels ≡ 0 → t.watching.satisfied < length (unwatched t.watching.watches)
    → get_or (unwatched t.watching.watches) t.watching.satisfied 0 ≡ c → IsSatisfiedIfShort t (clause_at clauses.db.now c)
    → s ≡ rewatched t (satisfying t.watching (t.watching.satisfied + 1)) t.propagated → IsTrail s → IsProgress clauses (a, g) (s, h)
progress_satisfied clauses a t s g h c old lowest more here satisfied is trail =
    let w = satisfying t.watching (t.watching.satisfied + 1) in
    let below = unwatched_below t.watching.watches t.watching.satisfied more in
    let short = old.work.watched.short (get_or (unwatched t.watching.watches) t.watching.satisfied 0) below (unwatched_none t.watching.watches t.watching.satisfied more) in
    let any = satisfied (rw here at short) in
    let since : Any (IsTrueUpTo t.entries 0) (clause_at clauses.db.now c) = (any.0, any.1, any.2, any.3, up_to_top t any.1 0 old.work.trail (omega (arith, lowest)) any.4) in
    subst (λ (x : Assigned). IsProgress clauses (a, g) (x, h)) (sym is)
    (progress_rewatched t clauses w t.propagated a g h (subst IsTrail is trail) (watched_satisfied t clauses.db.now (rw here since) old.work.watched)
    (omega arith) (λ k was. was) old)

pub satisfied_grown : (t s : Assigned) (clause : List Lit) → IsGrown t s → IsSatisfiedIfShort t clause → IsSatisfiedIfShort s clause
satisfied_grown t s clause grown was short = let any = was short in (any.0, any.1, any.2, any.3, held_grown t s any.1 grown any.4)

pub short_grown : (t s : Assigned) (db : List (List Lit)) → IsGrown t s → AreShortSatisfied t db → AreShortSatisfied s db
short_grown t s db grown was c held = satisfied_grown t s (clause_at db c) grown (was c held)

-- where all clauses are attached, those of two literals or more are watched
pub all_watched : (t : Assigned) (db : List (List Lit)) → AreWatched t db → length db ≤ length t.watching.watches → AreAllWatched t db
all_watched t db watched known c held long = by_watch (watch_at t.watching c) refl where
  by_watch : (r : Option Watch) → watch_at t.watching c ≡ r → IsSome (watch_at t.watching c)
  by_watch None none = let short = watched.short c (omega (arith, held, known)) none in absurd (omega (arith, short, long))
  by_watch (Some p) is = rw is refl

-- where all is propagated, and all clauses are attached, each is settled
pub all_settled : (t : Assigned) (db : List (List Lit)) → AreWatched t db → t.propagated ≡ length t.entries → length db ≤ length t.watching.watches → AreShortSatisfied t db → AreSettled t.entries db
all_settled t db watched propagated known short = All-from_get_or (IsSettled negation (literals t.entries)) db [] (λ c held. settled c held (watch_at t.watching c) refl) where
  settled : (c : ℕ) → c < length db → (r : Option Watch) → watch_at t.watching c ≡ r → IsSettled negation (literals t.entries) (clause_at db c)
  settled c held None is = inl (short c held (watched.short c (omega (arith, held, known)) is))
  settled c held (Some p) is =
      let two = watched.two c p is in
      let rule = watched.rule c p is in
      elim (cases_contains (literals t.entries) (negation p.first)) [
        | inl no_first ↦
            let at = literal_at t.entries (negation p.first) no_first in
            let since = rule.first no_first.0 (let within = at.0 in omega (arith, within, propagated)) at.1 in
            let has = two.has_second in
            inl (has.0, p.second, has.1, has.2, up_to_held t.entries _ p.second since)
        | inr first_open ↦ elim (cases_contains (literals t.entries) (negation p.second)) [
          | inl no_second ↦
              let at = literal_at t.entries (negation p.second) no_second in
              let since = rule.second no_second.0 (let within = at.0 in omega (arith, within, propagated)) at.1 in
              let has = two.has_first in
              inl (has.0, p.first, has.1, has.2, up_to_held t.entries _ p.first since)
          | inr second_open ↦ inr (record {
            one = p.first;
            other = p.second;
            has_one = two.has_first;
            has_other = two.has_second;
            differ = two.differ;
            one_open = first_open;
            other_open = second_open;
          })
        ]
      ]

-- the lists of watchers change
pub progress_lists : (clauses : LinkedClauses) (a t s : Assigned) (g h : Constraints)
    → s ≡ rewatched t s.watching t.propagated → s.watching.watches ≡ t.watching.watches → s.watching.satisfied ≡ t.watching.satisfied → IsTrail s
    → IsProgress clauses (a, g) (t, h)
    → IsProgress clauses (a, g) (s, h)
progress_lists clauses a t s g h is same satisfied trail old =
    let v = s.watching in
    subst (λ (x : Assigned). IsProgress clauses (a, g) (x, h)) (sym is)
    (progress_rewatched t clauses v t.propagated a g h (subst IsTrail is trail) (watched_lists t clauses.db.now v same satisfied old.work.watched)
    (omega (arith, ap length same)) (λ k was c p from here. was c p from (rw same at here)) old)

-- one more clause is attached
pub progress_up : (clauses : LinkedClauses) (a t s : Assigned) (g h : Constraints) (r : Option Watch)
    → s ≡ rewatched t s.watching t.propagated → s.watching.watches ≡ t.watching.watches ++ r ∷ [] → s.watching.satisfied ≡ t.watching.satisfied
    → IsTrail s
    → length t.watching.watches < length clauses.db.now → (r ≡ None → length (clause_at clauses.db.now (length t.watching.watches)) < 2)
    → ((p : Watch) → r ≡ Some p → AreTwoOf (clause_at clauses.db.now (length t.watching.watches)) p × AreGuarded t.entries t.propagated p)
    → ((p : Watch) → r ≡ Some p → AreLastToFall t.entries (length t.levels) (clause_at clauses.db.now (length t.watching.watches)) p) → IsProgress clauses (a, g) (t, h) → IsProgress clauses (a, g) (s, h)
progress_up clauses a t s g h r is added satisfied trail more none some last old =
    let v = s.watching in
    subst (λ (x : Assigned). IsProgress clauses (a, g) (x, h)) (sym is)
    (progress_rewatched t clauses v t.propagated a g h (subst IsTrail is trail) (watched_up t clauses.db.now v r added satisfied old.work.trail.satisfied more none some old.work.watched) (omega (arith, ap length added, length_push t.watching.watches r)) kept old) where
      kept : (k : ℕ) → AreLastToFallFrom k t clauses.db.now → AreLastToFallFrom k (rewatched t s.watching t.propagated) clauses.db.now
      kept k was c p from here = elim (cases_attached t.watching.watches r c p (rw added at here)) [ inl before ↦ was c p from before | inr new ↦ rw new.0 (last p new.1) ]

-- one more clause whose best two literals are watched
pub progress_two : (clauses : LinkedClauses) (a t s : Assigned) (g h : Constraints) (c : ℕ) (p : Watch)
    → IsProgress clauses (a, g) (t, h) → IsUnmoved a t → IsAssignedIfUnit a t p.first p.second → AreBest a.entries (clause_at clauses.db.now c) p
    → s ≡ rewatched t s.watching t.propagated → s.watching.watches ≡ t.watching.watches ++ Some p ∷ []
    → s.watching.satisfied ≡ t.watching.satisfied → IsTrail s → c ≡ length a.watching.watches → c < length clauses.db.now
    → IsProgress clauses (a, g) (s, h)
progress_two clauses a t s g h c p old unmoved assigned_here best is added satisfied trail at held =
    let here : c ≡ length t.watching.watches = at ∙ ap (λ (w : Watching). length w.watches) (sym unmoved.watching) in
    let guards = guards_best a t (clause_at clauses.db.now c) p t.propagated old.work.trail old.work.trail.propagated assigned_here best in
    let last = both_last_grown a t old.grown (clause_at clauses.db.now c) p (both_last_best a.entries (length a.levels) (clause_at clauses.db.now c) p best) in
    progress_up clauses a t s g h (Some p) is added satisfied trail (omega (arith, held, here)) (λ none. absurd (some_none none)) (λ q same. let this : p ≡ q = same_Some _ _ same in rw (← this, ← here) (two_best a.entries (clause_at clauses.db.now c) p best, guards)) (λ q same. let this : p ≡ q = same_Some _ _ same in rw (← this, ← here) last) old where
      some_none : {x : Watch} → Some x ≡ None → ⊥
      some_none e = cc

-- the lists of watchers with a clause more, and with a clause less
pub listed_two : (w : Watching) (p : Watch) (c : ℕ) → p.first.var < length w.watchers → p.second.var < length w.watchers
    → IsListed (listing (listing w p.first (watchers_of w p.first ++ c ∷ [])) p.second (watchers_of (listing w p.first (watchers_of w p.first ++ c ∷ [])) p.second ++ c ∷ [])) c p
listed_two w p c first second =
    let v = listing w p.first (watchers_of w p.first ++ c ∷ []) in
    let more : p.second.var < length v.watchers =
    omega (
      arith,
      second,
      length-set w.watchers p.first.var
          (with_list (lists_at w.watchers p.first.var) p.first.positive (watchers_of w p.first ++ c ∷ [])),
    ) in
    record { first = listed_more v p.second c more p.first c (listed_new w p.first c first); second = listed_new v p.second c more }

-- the next literal to propagate stays the next one
pub next_grown : (t s : Assigned) (f : Lit) → IsGrown t s → s.propagated ≡ t.propagated → IsNextFalse t f → IsNextFalse s f
next_grown t s f grown same next =
    let longer = grown.longer in
    let more = next.more in
    record { more = omega (arith, more, longer, same); is = ap (λ k. (entry_at s.entries k).lit) same ∙ ap (λ e. e.lit) (grown_entry t s t.propagated grown more) ∙ next.is }

-- a clause that stays among the watchers of the literal
pub among_next : (xs : List ℕ) (place c d : ℕ) → get_or xs place 0 ≡ c → d ≢ c → IsAmong xs place d → IsAmong xs (place + 1) d
among_next xs place c d here other (j, le, within, at) = elim (cases_eq j place) [
  | inl same ↦ absurd (other (sym at ∙ ap (λ k. get_or xs k 0) same ∙ here))
  | inr differ ↦ (j, omega (arith, le, differ), within, at)
]

pub visited_stay : (t s : Assigned) (f : Lit) (c place : ℕ) → s.propagated ≡ t.propagated → s.watching ≡ t.watching → IsWatcherAt t.watching f place c
    → ((p : Watch) → watch_at s.watching c ≡ Some p → AreGuarded s.entries (t.propagated + 1) p)
    → IsVisited t s f c place (place + 1)
visited_stay t s f c place propagated same here guards = record {
  propagated = propagated;
  guarded = guards;
  others = λ d other. ap (λ (w : Watching). watch_at w d) same;
  count = omega (arith, ap (λ (w : Watching). length (watchers_of w f)) same);
  left = λ d other among. rw same (among_next (watchers_of t.watching f) place c d here.is other among);
}

-- a clause that no longer watches it
pub guards_elsewhere : (t : Assigned) (db : List (List Lit)) (f : Lit) (c : ℕ) → IsTrail t → AreWatched t db → IsNextFalse t f
    → IsUnwatched t.watching c f → (p : Watch) → watch_at t.watching c ≡ Some p → AreGuarded t.entries (t.propagated + 1) p
guards_elsewhere t db f c trail watched next unwatched p is =
    let rule = watched.rule c p is in
    let apart = unwatched p is in
    record { first = guard_next t f trail next p.first p.second apart.0 rule.first; second = guard_next t f trail next p.second p.first apart.1 rule.second }

-- the best literal beside the other one may be watched in place of it
module _ (t s : Assigned) (db : List (List Lit)) (c : ℕ) (f o best : Lit) (before : IsTrail t) (trail : IsTrail s) (watched : AreWatched t db) (next : IsNextFalse t f) (both : AreWatchedOf t.watching c f o) (grown : IsGrown t s)
    (unmoved : IsUnmoved t s) (assigned_here : IsAssignedIfUnit t s o best) where
  few : t.propagated + 1 ≤ length s.entries
  few = let more = next.more in let longer = grown.longer in omega (arith, more, longer)

  pub guards_moved : AreGuarded s.entries (t.propagated + 1) (record { first = o; second = best })
  guards_moved = so assigned_here where
    so : IsAssignedIfUnit t s o best → AreGuarded s.entries (t.propagated + 1) (record { first = o; second = best })
    so (inl (open_here, same)) =
        let more = next.more in
        subst (λ (x : Assigned). AreGuarded x.entries (t.propagated + 1) (record { first = o; second = best })) (sym same) (record {
          first = guard_beside t f before next o best (other_apart t db c f o before watched next both) (rule_of_other t db c f o before watched next both);
          second = guard_open t.entries (t.propagated + 1) best o (omega (arith, more)) open_here;
        })
    so (inr (made, guarded)) = record {
      first = guard_true s (t.propagated + 1) o best trail few made;
      second = guard_fewer s.entries (length s.entries) (t.propagated + 1) best o few guarded;
    }

  -- where that one was false before, the other one is true since then
  pub since_before : IsTrueUpTo s.entries (entry_at s.entries s.propagated).level (negation best) → IsTrueUpTo s.entries (entry_at s.entries s.propagated).level o
  since_before sooner = so assigned_here where
    so : IsAssignedIfUnit t s o best → IsTrueUpTo s.entries (entry_at s.entries s.propagated).level o
    so (inl (open_here, same)) = absurd (open_here (subst (λ (x : Assigned). Contains (literals x.entries) (negation best)) same (up_to_held s.entries _ (negation best) sooner)))
    so (inr (made, guarded)) =
        let since = guarded sooner.0 sooner.1 sooner.2 in
        let low = sooner.3 in
        let high = since.3 in
        (since.0, since.1, since.2, omega (arith, low, high))

pub visited_moved : (t s u : Assigned) (f : Lit) (c place : ℕ) (p : Watch) → s.propagated ≡ t.propagated → s.watching ≡ t.watching
    → u ≡ rewatched s u.watching s.propagated → IsRewatched s.watching u.watching c p → IsMoved s.watching u.watching f p c place
    → AreGuarded s.entries (t.propagated + 1) p → IsVisited t u f c place place
visited_moved t s u f c place p propagated same is anew moved guards = record {
  propagated = ap (λ (x : Assigned). x.propagated) is ∙ propagated;
  guarded = λ q at.
      let this : p ≡ q = same_Some _ _ (sym moved.watch ∙ at) in
      rw (ap (λ (x : Assigned). x.entries) is, ← this) guards;
  others = λ d other. anew.others d other ∙ ap (λ (w : Watching). watch_at w d) same;
  count = let count = moved.count in omega (arith, count, ap (λ (w : Watching). length (watchers_of w f)) same);
  left = λ d other among. moved.left d other (rw same among);
}

-- a clause that was watched anew at two literals that may be watched
pub progress_again : (clauses : LinkedClauses) (a s u : Assigned) (g h : Constraints) (c : ℕ) (p : Watch)
    → u ≡ rewatched s u.watching s.propagated → IsTrail u → IsRewatched s.watching u.watching c p
    → AreTwoOf (clause_at clauses.db.now c) p → AreGuarded s.entries s.propagated p
    → ((k : ℕ) → k ≤ c → AreLastToFallFrom k s clauses.db.now → AreLastToFall s.entries (length s.levels) (clause_at clauses.db.now c) p)
    → IsProgress clauses (a, g) (s, h) → IsProgress clauses (a, g) (u, h)
progress_again clauses a s u g h c p is trail anew two guards last old =
    let count = anew.count in
    subst (λ (x : Assigned). IsProgress clauses (a, g) (x, h)) (sym is)
    (progress_rewatched s clauses u.watching s.propagated a g h (subst IsTrail is trail) (watched_again s clauses.db.now u.watching c p anew two guards old.work.watched) (omega (arith, count)) kept old) where
      kept : (k : ℕ) → AreLastToFallFrom k s clauses.db.now → AreLastToFallFrom k (rewatched s u.watching s.propagated) clauses.db.now
      kept k was d q from at = elim (cases_eq d c) [
        | inl same ↦ elim anew.here [
          | inl stays ↦ was d q from (ap (watch_at s.watching) same ∙ sym stays ∙ ap (watch_at u.watching) (sym same) ∙ at)
          | inr moved ↦
              let this : p ≡ q = same_Some _ _ (sym moved ∙ ap (watch_at u.watching) (sym same) ∙ at) in
              rw (same, ← this) (last k (omega (arith, from, same)) was)
        ]
        | inr other ↦ was d q from (sym (anew.others d other) ∙ at)
      ]

-- a clause that is moved: it is put among the watchers of its new literal, watches that, and leaves the old ones
module _ (w v u x : Watching) (l : Lit) (p : Watch) (c place : ℕ) (within : l.var < length w.watchers) (second : p.second.var < length w.watchers) (known : c < length w.watches) (apart : p.second ≢ l) (here : IsWatcherAt w l place c)
    (added : v ≡ listing w p.second (watchers_of w p.second ++ c ∷ [])) (anew : u ≡ watching v (set v.watches c (Some p))) where
  kept_list : watchers_of u l ≡ watchers_of w l
  kept_list =
      let other : l ≢ p.second = λ same. apart (sym same) in
      ap (λ (y : Watching). watchers_of y l) anew ∙ ap (λ (y : Watching). watchers_of y l) added ∙ listed_elsewhere w p.second (watchers_of w p.second ++ c ∷ []) second l other

  kept_watches : v.watches ≡ w.watches
  kept_watches = ap (λ (y : Watching). y.watches) added

  watches_now : u.watches ≡ set w.watches c (Some p)
  watches_now = ap (λ (y : Watching). y.watches) anew ∙ ap (λ xs. set xs c (Some p)) kept_watches

  pub moved_listed : Contains (watchers_of w p.first) c → IsListed v c p
  moved_listed has = rw added (record { first = listed_more w p.second c second p.first c has; second = listed_new w p.second c second })

  pub moved_within : place < length (watchers_of u l)
  moved_within = rw kept_list here.within

  pub moved_unwatched : p.first ≢ l → IsUnwatched u (get_or (watchers_of u l) place 0) l
  moved_unwatched other q is =
      let at : get_or (watchers_of u l) place 0 ≡ c = ap (λ xs. get_or xs place 0) kept_list ∙ here.is in
      let found : Some p ≡ Some q = sym (get_or-set_same w.watches c (Some p) None known) ∙ ap (λ xs. get_or xs c None) (sym watches_now) ∙ ap (λ k. watch_at u k) (sym at) ∙ is in
      let same : p ≡ q = same_Some _ _ found in
      rw (← same) (other, apart)

  module _ (less : x ≡ listing u l (swap_remove (watchers_of u l) place 0)) where
    end_watches : x.watches ≡ set w.watches c (Some p)
    end_watches = ap (λ (y : Watching). y.watches) less ∙ watches_now

    pub moved_anew : IsSome (watch_at w c) → IsRewatched w x c p
    moved_anew some = record {
      count = ap length end_watches ∙ length-set w.watches c (Some p);
      others = λ d other. ap (λ xs. get_or xs d None) end_watches ∙ get_or-set_other w.watches c d (Some p) None other;
      here = inr (ap (λ xs. get_or xs c None) end_watches ∙ get_or-set_same w.watches c (Some p) None known);
      short = ap unwatched end_watches ∙ unwatched_set w.watches c c p refl some;
      satisfied = ap (λ (y : Watching). y.satisfied) less ∙ ap (λ (y : Watching). y.satisfied) anew ∙ ap (λ (y : Watching). y.satisfied) added;
    }

    list_now : watchers_of x l ≡ swap_remove (watchers_of w l) place 0
    list_now =
        let lists : length u.watchers ≡ length w.watchers =
        ap (λ (y : Watching). length y.watchers) anew ∙ ap (λ (y : Watching). length y.watchers) added
        ∙ length-set w.watchers p.second.var (with_list (lists_at w.watchers p.second.var) p.second.positive
        (watchers_of w p.second ++ c ∷ [])) in
        ap (λ (y : Watching). watchers_of y l) less ∙ listed_here u l (swap_remove (watchers_of u l) place 0) (omega (arith, lists, within)) ∙ ap (λ xs. swap_remove xs place 0) kept_list

    pub moved_off : IsMoved w x l p c place
    moved_off = record {
      watch = ap (λ xs. get_or xs c None) end_watches ∙ get_or-set_same w.watches c (Some p) None known;
      count = ap (λ xs. length xs + 1) list_now ∙ removed_length (watchers_of w l) place here.within;
      left = λ d other among. rw list_now (left d other among);
    } where
      left : (d : ℕ) → d ≢ c → IsAmong (watchers_of w l) place d → IsAmong (swap_remove (watchers_of w l) place 0) place d
      left d other (j, le, in_j, at) =
          let elsewhere : j ≢ place = λ same. other (sym at ∙ ap (λ k. get_or (watchers_of w l) k 0) same ∙ here.is) in
          let to = removed_left (watchers_of w l) place here.within j in_j elsewhere in
          (to.0, to.2 le, to.1, to.3 ∙ at)
