-- Marked places of a trail.
use Rattle.std.specs.Prelude.{◌≡◌, ◌⊎◌, ℕ, ◌<◌, List, length, All, Contains}
use Rattle.clause_db.specs.declared.lit.Lit.{Lit}
use Rattle.propagate.specs.declared.entry.Entry.{Entry}
use Rattle.propagate.specs.Trails.{Assigned, IsAssigned, entry_at}

-- the variables of the clause are assigned
abbrev pub AreAssigned : List Entry → List Lit → Type 0
AreAssigned entries clause = All (λ l. IsAssigned entries l.var) clause

-- the marked places are before a given one
abbrev pub AreBelow : ℕ → List ℕ → Type 0
AreBelow before marked = (k : ℕ) → Contains marked k → k < before

-- a marked place is of the present level
abbrev pub HasMarkHere : Assigned → List ℕ → Type 0
HasMarkHere t marked = (k : ℕ) × Contains marked k × ((entry_at t.entries k).level ≡ length t.levels)

-- the place of a variable was marked too, if it is before a given one, and no other
pub record IsPut (entries : List Entry) (before v : ℕ) (old new : List ℕ) : Type 0 where
  pub kept : (k : ℕ) → Contains old k → Contains new k
  pub added : (k : ℕ) → k < before → k < length entries → (entry_at entries k).lit.var ≡ v → Contains new k
  pub only : (k : ℕ) → Contains new k → Contains old k ⊎ ((k < before) × (k < length entries) × ((entry_at entries k).lit.var ≡ v))

-- the places of a clause's variables that are before a given one were marked too, and no others
pub record IsMarkedBy (entries : List Entry) (before : ℕ) (clause : List Lit) (old new : List ℕ) : Type 0 where
  pub kept : (k : ℕ) → Contains old k → Contains new k
  pub added : (k : ℕ) (l : Lit) → k < before → k < length entries → Contains clause l → (entry_at entries k).lit.var ≡ l.var → Contains new k
  pub only : (k : ℕ) → Contains new k → Contains old k ⊎ ((k < before) × (k < length entries) × ((l : Lit) × Contains clause l × ((entry_at entries k).lit.var ≡ l.var)))
