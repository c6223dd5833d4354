-- What is done with a clause that is attached or visited.
use Rattle.std.specs.Prelude.{◌≡◌, ◌≢◌, ◌⊎◌, ℕ, ◌+◌, ◌<◌, ◌≤◌, List, length, Some, Any, Contains, slice_index_or}
use Rattle.clause_db.specs.declared.lit.Lit.{Lit}
use Rattle.clause_db.specs.Literals.{negation}
use Rattle.clause_db.specs.Clauses.{clause_at}
use Rattle.propagate.specs.declared.watch.Watch.{Watch}
use Rattle.propagate.specs.declared.watch.Watcher.{Watcher}
use Rattle.propagate.specs.declared.visit.Visit.{Visit}
use Rattle.propagate.specs.declared.visit.Visit.TheVariants as visit
use Rattle.propagate.specs.Watching.{Watching, unwatched, watch_at, watchers_of}
use Rattle.propagate.specs.Trails.{Assigned, entry_at, literals}
use Rattle.propagate.specs.Best.{AreFalseUpTo}
use Rattle.propagate.specs.Watched.{AreGuarded, IsGuarded, IsTrueUpTo}

-- if the clause has fewer than two literals, it has a true one
abbrev pub IsSatisfiedIfShort : Assigned → List Lit → Type 0
IsSatisfiedIfShort t clause = length clause < 2 → Any (Contains (literals t.entries)) clause

-- each clause of fewer than two literals has a true one
abbrev pub AreShortSatisfied : Assigned → List (List Lit) → Type 0
AreShortSatisfied t db = (c : ℕ) → c < length db → IsSatisfiedIfShort t (clause_at db c)

-- the best literal of a clause beside another one isn't false, and nothing was done; or that one is true, since a level not
-- above that at which the best one became false
abbrev pub IsAssignedIfUnit : Assigned → Assigned → Lit → Lit → Type 0
IsAssignedIfUnit old new l best = ((Contains (literals old.entries) (negation best) → ⊥) × (new ≡ old)) ⊎ (Contains (literals new.entries) l × IsGuarded new.entries (length new.entries) best l)

-- the literal of a clause is true since any level up to which the others are false
abbrev pub IsTrueSinceUnit : Assigned → Assigned → List Lit → Lit → Type 0
IsTrueSinceUnit old new clause l = (m : ℕ) → AreFalseUpTo old.entries m clause (Some l) → IsTrueUpTo new.entries m l

-- what is watched stayed, and so did the number of literals that are propagated
pub record IsUnmoved (old new : Assigned) : Type 0 where
  pub watching : new.watching ≡ old.watching
  pub propagated : new.propagated ≡ old.propagated

-- the next literal to propagate is the negation of this one
pub record IsNextFalse (t : Assigned) (l : Lit) : Type 0 where
  pub more : t.propagated < length t.entries
  pub is : (entry_at t.entries t.propagated).lit ≡ negation l

-- the clause stands in the list at that place or a later one
abbrev pub IsAmong : List ℕ → ℕ → ℕ → Type 0
IsAmong xs place c = (j : ℕ) × (place ≤ j) × (j < length xs) × (slice_index_or xs j 0 ≡ c)

-- at most the clause is watched anew, at these two literals, and those without watched literals are the same
pub record IsRewatched (old new : Watching) (c : ℕ) (p : Watch) : Type 0 where
  pub count : length new.watches ≡ length old.watches
  pub others : (d : ℕ) → d ≢ c → watch_at new d ≡ watch_at old d
  pub here : (watch_at new c ≡ watch_at old c) ⊎ (watch_at new c ≡ Some p)
  pub short : unwatched new.watches ≡ unwatched old.watches
  pub satisfied : new.satisfied ≡ old.satisfied

-- the clause is watched at these two literals, and left the watchers of the literal, whose others remain from its place on
pub record IsMoved (old new : Watching) (l : Lit) (p : Watch) (c place : ℕ) : Type 0 where
  pub watch : watch_at new c ≡ Some p
  pub count : length (watchers_of new l) + 1 ≡ length (watchers_of old l)
  pub left : (d : ℕ) → d ≢ c → IsAmong (watchers_of old l) place d → IsAmong (watchers_of new l) place d

-- the clause stayed, since the second of the two literals was false at the level of the next literal to propagate, or it moved
abbrev pub HasMoved : Assigned → Assigned → Watcher → Watch → Visit → Type 0
HasMoved old new watcher p visit.Stayed = (new ≡ old) × IsTrueUpTo old.entries (entry_at old.entries old.propagated).level (negation p.second)
HasMoved old new watcher p visit.Moved = IsMoved old.watching new.watching watcher.lit p watcher.clause watcher.place

-- the clause keeps the watch rule with the next literal propagated too, the others are watched as before, and of the watchers of
-- the literal those others remain from the next place on that remained from this one on
pub record IsVisited (old new : Assigned) (l : Lit) (c place next : ℕ) : Type 0 where
  pub propagated : new.propagated ≡ old.propagated
  pub guarded : (p : Watch) → watch_at new.watching c ≡ Some p → AreGuarded new.entries (old.propagated + 1) p
  pub others : (d : ℕ) → d ≢ c → watch_at new.watching d ≡ watch_at old.watching d
  pub count : length (watchers_of new.watching l) + place + 1 ≡ length (watchers_of old.watching l) + next
  pub left : (d : ℕ) → d ≢ c → IsAmong (watchers_of old.watching l) place d → IsAmong (watchers_of new.watching l) next d

-- the place of the next watcher, after the one at a place was visited
abbrev pub place_after : Visit → ℕ → ℕ
place_after visit.Stayed place = place + 1
place_after visit.Moved place = place

-- the watcher was visited, with this end
abbrev pub WasVisited : Assigned → Assigned → Watcher → Visit → Type 0
WasVisited old new watcher v = IsVisited old new watcher.lit watcher.clause watcher.place (place_after v watcher.place)
