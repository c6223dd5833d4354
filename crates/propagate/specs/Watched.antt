-- The watch rule: no watched literal is false, but where the other one is true since a level not above.
use Rattle.std.specs.Prelude.{◌≡◌, ◌≢◌, ℕ, ◌<◌, ◌≤◌, List, length, Some, None, IsSome, Any, Contains, slice_index_or}
use Rattle.clause_db.specs.declared.lit.Lit.{Lit}
use Rattle.clause_db.specs.Literals.{negation}
use Rattle.clause_db.specs.Clauses.{clause_at}
use Rattle.propagate.specs.declared.entry.Entry.{Entry}
use Rattle.propagate.specs.declared.watch.Watch.{Watch}
use Rattle.propagate.specs.Watching.{unwatched, watch_at}
use Rattle.propagate.specs.Trails.{Assigned, entry_at}

-- two different literals of the clause
pub record AreTwoOf (clause : List Lit) (p : Watch) : Type 0 where
  pub differ : p.first ≢ p.second
  pub has_first : Contains clause p.first
  pub has_second : Contains clause p.second

-- the literal is true at the level
abbrev pub IsTrueAt : List Entry → Lit → ℕ → Type 0
IsTrueAt entries l level = (k : ℕ) × (k < length entries) × ((entry_at entries k).lit ≡ l) × ((entry_at entries k).level ≡ level)

-- the literal is true since that level or a lower one
abbrev pub IsTrueUpTo : List Entry → ℕ → Lit → Type 0
IsTrueUpTo entries m l = (k : ℕ) × (k < length entries) × ((entry_at entries k).lit ≡ l) × ((entry_at entries k).level ≤ m)

-- where the literal is false by one of the first n literals of the trail, the other one is true since a level not above
abbrev pub IsGuarded : List Entry → ℕ → Lit → Lit → Type 0
IsGuarded entries n l other = (k : ℕ) → k < n → (entry_at entries k).lit ≡ negation l → IsTrueUpTo entries (entry_at entries k).level other

-- so it is with both of the watched literals
pub record AreGuarded (entries : List Entry) (n : ℕ) (p : Watch) : Type 0 where
  pub first : IsGuarded entries n p.first p.second
  pub second : IsGuarded entries n p.second p.first

-- each clause of two literals or more is watched
abbrev pub AreAllWatched : Assigned → List (List Lit) → Type 0
AreAllWatched t db = (c : ℕ) → c < length db → 2 ≤ length (clause_at db c) → IsSome (watch_at t.watching c)

-- of the first so many clauses, those with two literals have two that are watched, and keep the watch rule but where the
-- negation of a watched literal isn't yet propagated; of the others, those that count as satisfied have a literal that is true since level 0
pub record AreWatched (t : Assigned) (db : List (List Lit)) : Type 0 where
  pub known : length t.watching.watches ≤ length db
  pub two : (c : ℕ) (p : Watch) → watch_at t.watching c ≡ Some p → AreTwoOf (clause_at db c) p
  pub short : (c : ℕ) → c < length t.watching.watches → watch_at t.watching c ≡ None → length (clause_at db c) < 2
  pub rule : (c : ℕ) (p : Watch) → watch_at t.watching c ≡ Some p → AreGuarded t.entries t.propagated p
  pub satisfied : (k : ℕ) → k < t.watching.satisfied → k < length (unwatched t.watching.watches) → Any (IsTrueUpTo t.entries 0) (clause_at db (slice_index_or (unwatched t.watching.watches) k 0))
