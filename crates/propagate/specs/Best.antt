-- The literals of a clause that are best watched: those that aren't false, or else those that became false last.
use Rattle.std.specs.Prelude.{◌≡◌, ◌≢◌, ◌⊎◌, ℕ, ◌<◌, ◌≤◌, List, length, Option, Some, None, All, Contains, slice_index_or}
use Rattle.clause_db.specs.declared.lit.Lit.{Lit}
use Rattle.clause_db.specs.Literals.{negation}
use Rattle.clause_db.specs.Clauses.{clause_at}
use Rattle.propagate.specs.declared.entry.Entry.{Entry}
use Rattle.propagate.specs.declared.watch.Watch.{Watch}
use Rattle.propagate.specs.declared.best.Falsified.{Falsified}
use Rattle.propagate.specs.Watching.{watch_at}
use Rattle.propagate.specs.Trails.{Assigned, entry_at, literals}
use Rattle.propagate.specs.Watched.{IsTrueAt, IsTrueUpTo}

-- the literals of the clause, but perhaps for one, are false since that level or lower ones
abbrev pub AreFalseUpTo : List Entry → ℕ → List Lit → Option Lit → Type 0
AreFalseUpTo entries m clause but = All (λ x. (but ≡ Some x) ⊎ IsTrueUpTo entries m (negation x)) clause

-- the literals of a part of the clause, but perhaps for one, are false
abbrev pub AreFalseWithin : List Entry → List Lit → ℕ → ℕ → Option Lit → Type 0
AreFalseWithin entries clause from to but = (k : ℕ) (d : Lit) → from ≤ k → k < to → (but ≡ Some (slice_index_or clause k d)) ⊎ Contains (literals entries) (negation (slice_index_or clause k d))

-- a literal of the clause beside another one; where it is false, so are the others, and none became false at a higher level
pub record IsBest (entries : List Entry) (clause : List Lit) (beside : Option Lit) (l : Lit) : Type 0 where
  pub has : Contains clause l
  pub differs : beside ≢ Some l
  pub last : (k : ℕ) → k < length entries → (entry_at entries k).lit ≡ negation l → AreFalseUpTo entries (entry_at entries k).level clause beside

-- a literal of the clause beside another one that became false last of those that were seen, where all of these are false
pub record IsLastFalse (entries : List Entry) (seen : List Lit) (beside : Option Lit) (f : Falsified) : Type 0 where
  pub has : Contains seen f.lit
  pub differs : beside ≢ Some f.lit
  pub at : IsTrueAt entries (negation f.lit) f.level
  pub others : AreFalseUpTo entries f.level seen beside

-- nothing was seen so far of a clause but perhaps the other literal; or all that was seen but perhaps that one is false, and
-- this is the literal that became so last
abbrev pub IsSeen : List Entry → List Lit → Option Lit → Option Falsified → Type 0
IsSeen entries seen beside None = All (λ x. beside ≡ Some x) seen
IsSeen entries seen beside (Some f) = IsLastFalse entries seen beside f

-- the best literal of the clause, and the best beside it
pub record AreBest (entries : List Entry) (clause : List Lit) (p : Watch) : Type 0 where
  pub first : IsBest entries clause None p.first
  pub second : IsBest entries clause (Some p.first) p.second

-- where the literal became false below the present level, all literals of the clause are false since that level or lower ones,
-- but perhaps for the other one
abbrev pub IsLastToFall : List Entry → ℕ → List Lit → Lit → Lit → Type 0
IsLastToFall entries present clause l other = (m : ℕ) → m < present → IsTrueAt entries (negation l) m → AreFalseUpTo entries m clause (Some other)

-- so it is with both of the watched literals
pub record AreLastToFall (entries : List Entry) (present : ℕ) (clause : List Lit) (p : Watch) : Type 0 where
  pub first : IsLastToFall entries present clause p.first p.second
  pub second : IsLastToFall entries present clause p.second p.first

-- so it is with each clause from this number on
abbrev pub AreLastToFallFrom : ℕ → Assigned → List (List Lit) → Type 0
AreLastToFallFrom n t db = (c : ℕ) (p : Watch) → n ≤ c → watch_at t.watching c ≡ Some p → AreLastToFall t.entries (length t.levels) (clause_at db c) p

-- where the literal is false, no literal of the clause became false at a higher level
abbrev pub IsHighest : List Entry → List Lit → Lit → Type 0
IsHighest entries clause l = (m : ℕ) → IsTrueAt entries (negation l) m → All (λ x. (n : ℕ) → IsTrueAt entries (negation x) n → n ≤ m) clause

-- of the literals of a clause those two are watched that aren't false, or became false at the highest levels; and one that is
-- false since a level below the present one is watched only where all but the other one are false
pub record AreHighest (entries : List Entry) (present : ℕ) (clause : List Lit) (p : Watch) : Type 0 where
  pub first : IsHighest entries clause p.first
  pub second : IsHighest entries clause p.second
  pub last : AreLastToFall entries present clause p

-- so it is with each clause from this number on
abbrev pub AreHighestFrom : ℕ → Assigned → List (List Lit) → Type 0
AreHighestFrom n t db = (c : ℕ) (p : Watch) → n ≤ c → watch_at t.watching c ≡ Some p → AreHighest t.entries (length t.levels) (clause_at db c) p
