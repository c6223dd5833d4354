-- The walk down a trail that resolves a false clause with the reasons of its literals.
use Rattle.std.specs.Prelude.{◌≡◌, ◌⊎◌, ℕ, ◌<◌, ◌≤◌, List, length, Some, Contains, slice_index_or}
use Rattle.hint_refutation.specs.Hints.{RefutesGiving, StandsIn, AreSpent}
use Rattle.clause_db.specs.declared.lit.Lit.{Lit}
use Rattle.clause_db.specs.Literals.{negation}
use Rattle.clause_db.specs.Clauses.{clause_at, clauses_at, AreHeld}
use Rattle.propagate.specs.declared.entry.Entry.{Entry}
use Rattle.propagate.specs.Trails.{Assigned, entry_at}
use Rattle.analyze.specs.Asserting.{EndsIn}
use Rattle.analyze.specs.Marks.{AreBelow, HasMarkHere}

-- the negation of the literal at a place
abbrev pub denied : List Entry → ℕ → Lit
denied entries k = negation (entry_at entries k).lit

-- the level of the literal at a place
abbrev pub level_of : List Entry → ℕ → ℕ
level_of entries k = (entry_at entries k).level

-- the clause is the reason of the literal at the place, whose level is 0, or the present one where another mark is of it
abbrev pub IsAway : Assigned → ℕ → List ℕ → ℕ → Type 0
IsAway t p marked c = ((entry_at t.entries p).reason ≡ Some c) × ((level_of t.entries p ≡ 0) ⊎ ((0 < level_of t.entries p) × (level_of t.entries p ≡ length t.levels) × HasMarkHere t marked))

-- the level is above 0; where it is the present one, no other mark is of that level, or all earlier levels are lower
abbrev pub IsAside : Assigned → ℕ → List ℕ → Type 0
IsAside t p marked = (0 < level_of t.entries p) × (level_of t.entries p ≡ length t.levels → (HasMarkHere t marked → ⊥) ⊎ ((i : ℕ) → i < p → level_of t.entries i < level_of t.entries p))

-- the place is left: it is marked, or was set aside for the clause
abbrev pub IsLeft : List ℕ → List ℕ → ℕ → Type 0
IsLeft marked aside k = Contains marked k ⊎ Contains aside k

-- what is assumed is a literal of the trail whose place is left, or is before the given one
pub record IsAssumed (entries : List Entry) (place : ℕ) (marked aside : List ℕ) (a : Lit) : Type 0 where
  pub at : ℕ
  pub within : at < length entries
  pub is : (entry_at entries at).lit ≡ a
  pub left : IsLeft marked aside at ⊎ (at < place)

-- the hints refute whatever has the literals that are left, and else only literals before the given place
abbrev pub CanRefute : List Entry → List (List Lit) → ℕ → List ℕ → List ℕ → List ℕ → List Lit → Type 0
CanRefute entries db place marked aside hints given =
    (assumed : List Lit) → ((k : ℕ) → IsLeft marked aside k → Contains assumed (entry_at entries k).lit)
    → ((a : Lit) → Contains assumed a → IsAssumed entries place marked aside a) → RefutesGiving negation assumed (clauses_at db hints) given

-- two literals of the clause became false at the present level
pub record HasTwoHere (t : Assigned) (clause : List Lit) : Type 0 where
  pub low : ℕ
  pub high : ℕ
  pub apart : low < high
  pub within : high < length t.entries
  pub low_level : level_of t.entries low ≡ length t.levels
  pub high_level : level_of t.entries high ≡ length t.levels
  pub has_low : Contains clause (denied t.entries low)
  pub has_high : Contains clause (denied t.entries high)

-- the places set aside, from the last: the first is of the present level, the others of lower levels above 0
pub record AreAside (t : Assigned) (place : ℕ) (aside : List ℕ) : Type 0 where
  pub within : (j : ℕ) → j < length aside → (place ≤ slice_index_or aside j 0) × (slice_index_or aside j 0 < length t.entries)
  pub falling : (i j : ℕ) → i < j → j < length aside → slice_index_or aside j 0 < slice_index_or aside i 0
  pub first : 0 < length aside → level_of t.entries (slice_index_or aside 0 0) ≡ length t.levels
  pub above : 0 < length aside → 0 < length t.levels
  pub lower : (j : ℕ) → 0 < j → j < length aside → (0 < level_of t.entries (slice_index_or aside j 0)) × (level_of t.entries (slice_index_or aside j 0) < length t.levels)

-- the walk has come down to a place
pub record IsWork (t : Assigned) (db : List (List Lit)) (conflict : ℕ) (place : ℕ) (marked aside hints : List ℕ) : Type 0 where
  pub below : AreBelow place marked
  pub within : place ≤ length t.entries
  pub are_aside : AreAside t place aside
  -- at a level above 0 the first place is set aside when the last mark of that level goes
  pub phase : 0 < length t.levels → ((length aside ≡ 0) × HasMarkHere t marked) ⊎ ((0 < length aside) × (HasMarkHere t marked → ⊥))
  pub held : AreHeld db hints
  pub ends : EndsIn conflict hints
  pub given : List Lit
  pub refutes : CanRefute t.entries db place marked aside hints given
  pub spent : AreSpent negation (clauses_at db hints) given
  pub stands : (k : ℕ) → IsLeft marked aside k → StandsIn (clauses_at db hints) (denied t.entries k)
  -- all that is left above level 0 came from the conflict, unless that has two literals of the present level
  pub two : HasTwoHere t (clause_at db conflict) ⊎ ((k : ℕ) → IsLeft marked aside k → 0 < level_of t.entries k → Contains (clause_at db conflict) (denied t.entries k))
