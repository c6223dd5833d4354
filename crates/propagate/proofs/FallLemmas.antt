-- Watched literals that are false only where all others, or all but the other watched one, are so since no higher level.
use Rattle.std.proofs.Common.{◌≡◌, ℕ, ◌<◌, ◌≤◌, ◌⊎◌, inl, inr, List, length, arith, Some, None}
use Rattle.std.specs.List.{Contains}
use Rattle.std.proofs.lemmas.Bool.{cases_lt}
use Rattle.std.proofs.lemmas.List.Elements.{All-contains, All-weaker}
use Rattle.clause_db.specs.declared.lit.Lit.{Lit}
use Rattle.clause_db.specs.Literals.{negation}
use Rattle.clause_db.specs.Clauses.{clause_at}
use Rattle.propagate.specs.declared.entry.Entry.{Entry}
use Rattle.propagate.specs.declared.watch.Watch.{Watch}
use Rattle.propagate.specs.Watching.{AreWatchedOf}
use Rattle.propagate.specs.Trails.{Assigned, entry_at, IsTrail}
use Rattle.propagate.specs.Watched.{AreGuarded, AreWatched, IsGuarded, IsTrueAt, IsTrueUpTo}
use Rattle.propagate.specs.Best.{AreBest, AreHighest, AreHighestFrom, AreLastToFall, AreLastToFallFrom, IsBest, IsHighest, IsLastToFall}
use Rattle.propagate.specs.Visits.{IsAssignedIfUnit, IsNextFalse}
use Rattle.propagate.proofs.PlaceLemmas.{at_up_to, not_both, up_to_held, up_to_level}
use Rattle.propagate.proofs.WatchedLemmas.{known_at, up_to_longer}
use Rattle.propagate.proofs.GuardLemmas.{next_false}
use Rattle.std.proofs.lemmas.Option.{same_Some}

-- a trail that grows at the present level
module _ (xs ys : List Entry) (present : ℕ) (longer : length xs ≤ length ys) (same : (k : ℕ) → k < length xs → entry_at ys k ≡ entry_at xs k)
    (added : (k : ℕ) → length xs ≤ k → k < length ys → (entry_at ys k).level ≡ present) where
  pub last_longer : (clause : List Lit) (l other : Lit) → IsLastToFall xs present clause l other → IsLastToFall ys present clause l other
  last_longer clause l other was m below (k, within, is, level) = elim (cases_lt k (length xs)) [
    | inl old ↦ All-weaker (λ (x : Lit). (Some other ≡ Some x) ⊎ IsTrueUpTo xs m (negation x)) (λ (x : Lit). (Some other ≡ Some x) ⊎ IsTrueUpTo ys m (negation x)) more clause
        (was m below (k, old, rw (same k old) at is, rw (same k old) at level))
    | inr new ↦ let at = added k new within in absurd (omega (arith, at, level, below))
  ] where
    more : (x : Lit) → (Some other ≡ Some x) ⊎ IsTrueUpTo xs m (negation x) → (Some other ≡ Some x) ⊎ IsTrueUpTo ys m (negation x)
    more x (inl that) = inl that
    more x (inr since) = inr (up_to_longer xs ys longer same m (negation x) since)

-- the best literal beside another one
pub last_best : (es : List Entry) (present : ℕ) (clause : List Lit) (l other : Lit) → IsBest es clause (Some other) l → IsLastToFall es present clause l other
last_best es present clause l other best m below (k, within, is, level) = let rest = best.last k within is in rw level at rest

pub both_last_best : (es : List Entry) (present : ℕ) (clause : List Lit) (p : Watch) → AreBest es clause p → AreLastToFall es present clause p
both_last_best es present clause p best = record {
  first = λ m below at.
      let rest = best.first.last at.0 at.1 at.2 in
      All-weaker (λ (x : Lit). (None ≡ Some x) ⊎ IsTrueUpTo es m (negation x)) (λ (x : Lit). (Some p.second ≡ Some x) ⊎ IsTrueUpTo es m (negation x)) (more m) clause (rw at.3 at rest);
  second = last_best es present clause p.second p.first best.second;
} where
  more : (m : ℕ) (x : Lit) → (None ≡ Some x) ⊎ IsTrueUpTo es m (negation x) → (Some p.second ≡ Some x) ⊎ IsTrueUpTo es m (negation x)
  more m x (inl that) = absurd cc
  more m x (inr since) = inr since

-- of no clause so many are known
pub none_last : (t : Assigned) (db : List (List Lit)) → AreLastToFallFrom (length t.watching.watches) t db
none_last t db c p from is = let within = known_at t.watching.watches c p is in absurd (omega (arith, within, from))

-- the literal beside which the best one is watched anew, in place of one that is false, isn't false since a lower level
pub last_beside : (t s : Assigned) (clause : List Lit) (f o best : Lit) → IsTrail t → IsTrail s → IsNextFalse t f
    → IsAssignedIfUnit t s o best → Contains clause best → IsLastToFall s.entries (length s.levels) clause o f
    → IsLastToFall s.entries (length s.levels) clause o best
last_beside t s clause f o best before trail next (inl (open_here, same)) has was m below at =
    absurd (elim (All-contains (λ (x : Lit). (Some f ≡ Some x) ⊎ IsTrueUpTo s.entries m (negation x)) clause best (was m below at) has) [
      | inl that ↦ open_here (rw (same_Some _ _ that) at (next_false t f before next))
      | inr since ↦ open_here (rw same at (up_to_held s.entries m (negation best) since))
    ])
last_beside t s clause f o best before trail next (inr (made, guarded)) has was m below at =
    absurd (not_both s o trail made (up_to_held s.entries m (negation o) (at_up_to s.entries (negation o) m m (omega arith) at)))

-- the watched literals of a clause, of which f is one, with the best one in its place
pub last_moved : (t s : Assigned) (db : List (List Lit)) (n c : ℕ) (f o best : Lit) → IsTrail t → IsTrail s → IsNextFalse t f → IsAssignedIfUnit t s o best → AreWatchedOf s.watching c f o → n ≤ c
    → IsLastToFall s.entries (length s.levels) (clause_at db c) best o → Contains (clause_at db c) best → AreLastToFallFrom n s db
    → AreLastToFall s.entries (length s.levels) (clause_at db c) (record { first = o; second = best })
last_moved t s db n c f o best before trail next assigned (p, is, both) from last has was =
    let old = was c p from is in
    let that : IsLastToFall s.entries (length s.levels) (clause_at db c) o f = elim both [
      | inl at ↦ let r = old.second in rw (at.0, at.1) at r
      | inr at ↦ let r = old.first in rw (at.0, at.1) at r
    ] in
    record { first = last_beside t s (clause_at db c) f o best before trail next assigned has that; second = last }

-- where all is propagated, no literal of a clause became false at a higher level than one that is watched
module _ (t : Assigned) (clause : List Lit) (trail : IsTrail t) where
  highest : (l other : Lit) → IsGuarded t.entries (length t.entries) l other → IsLastToFall t.entries (length t.levels) clause l other → IsHighest t.entries clause l
  highest l other guarded last m at = elim (cases_lt m (length t.levels)) [
    | inr le ↦ λ k d within n fell. let top = trail.levels.top fell.0 fell.1 in let level = fell.3 in omega (arith, le, top, level)
    | inl below ↦ All-weaker (λ (x : Lit). (Some other ≡ Some x) ⊎ IsTrueUpTo t.entries m (negation x))
        (λ (x : Lit). (n : ℕ) → IsTrueAt t.entries (negation x) n → n ≤ m) weaker clause (last m below at)
  ] where
    weaker : (x : Lit) → (Some other ≡ Some x) ⊎ IsTrueUpTo t.entries m (negation x) → (n : ℕ) → IsTrueAt t.entries (negation x) n → n ≤ m
    weaker x (inr since) n fell = up_to_level t (negation x) n m trail fell since
    weaker x (inl that) n fell =
        let made = up_to_held t.entries _ other (guarded at.0 at.1 at.2) in
        let denied = up_to_held t.entries n (negation x) (at_up_to t.entries (negation x) n n (omega arith) fell) in
        absurd (not_both t other trail made (rw (← same_Some _ _ that) at denied))

  pub both_highest : (p : Watch) → AreGuarded t.entries (length t.entries) p → AreLastToFall t.entries (length t.levels) clause p → AreHighest t.entries (length t.levels) clause p
  both_highest p guards last = record { first = highest p.first p.second guards.first last.first; second = highest p.second p.first guards.second last.second; last = last }

pub all_highest : (t : Assigned) (db : List (List Lit)) (n : ℕ) → IsTrail t → AreWatched t db → t.propagated ≡ length t.entries → AreLastToFallFrom n t db → AreHighestFrom n t db
all_highest t db n trail watched propagated last c p from is = both_highest t (clause_at db c) trail p (rw propagated at (watched.rule c p is)) (last c p from is)
