-- Clauses that a conflict teaches.
use Rattle.std.specs.Prelude.{◌≡◌, ◌≢◌, ℕ, ◌-◌, ◌<◌, ◌≤◌, List, [], ◌∷◌, ◌++◌, length, All, Any, Contains}
use Rattle.clause_db.specs.declared.lit.Lit.{Lit}
use Rattle.clause_db.specs.Literals.{negation}
use Rattle.propagate.specs.declared.entry.Entry.{Entry}
use Rattle.propagate.specs.Trails.{Assigned, IsUnassigned, up_to}
use Rattle.propagate.specs.Clauses.{IsFalsified}

-- the literal is false, and became so at a level of which this holds
abbrev pub IsFalseSince : List Entry → (ℕ → Type 0) → Lit → Type 0
IsFalseSince entries P l = Any (λ e. (e.lit ≡ negation l) × P e.level) entries

-- some literal of the clause became false at the present level
abbrev pub HasHere : Assigned → List Lit → Type 0
HasHere t clause = Any (IsFalseSince t.entries (λ n. n ≡ length t.levels)) clause

-- the first literal became false at the present level, and the others at lower levels above 0
abbrev pub IsAsserting : Assigned → List Lit → Type 0
IsAsserting t [] = ⊥
IsAsserting t (first ∷ others) = IsFalseSince t.entries (λ n. n ≡ length t.levels) first × All (IsFalseSince t.entries (λ n. (0 < n) × (n < length t.levels))) others

-- the highest level at which a literal but the first became false, and 0 where there is no other
abbrev pub IsJump : List Entry → List Lit → ℕ → Type 0
IsJump entries [] jump = ⊥
IsJump entries (first ∷ []) jump = jump ≡ 0
IsJump entries (first ∷ second ∷ others) jump = All (IsFalseSince entries (λ n. n ≤ jump)) (second ∷ others) × Any (IsFalseSince entries (λ n. n ≡ jump)) (second ∷ others)

-- by the levels below the present one the variable of the first literal is unassigned, and the other literals are false
abbrev pub IsUnitBelow : Assigned → List Lit → Type 0
IsUnitBelow t [] = ⊥
IsUnitBelow t (first ∷ others) = IsUnassigned (up_to (length t.levels - 1) t.entries) first.var × IsFalsified (up_to (length t.levels - 1) t.entries) others

-- two different literals of the clause became false above a level
pub record HasTwoAbove (entries : List Entry) (m : ℕ) (clause : List Lit) : Type 0 where
  pub one : Lit
  pub other : Lit
  pub has_one : Contains clause one
  pub has_other : Contains clause other
  pub differ : one ≢ other
  pub one_above : IsFalseSince entries (λ n. m < n) one
  pub other_above : IsFalseSince entries (λ n. m < n) other

-- the clause is the last of these
abbrev pub EndsIn : ℕ → List ℕ → Type 0
EndsIn c hints = (front : List ℕ) × (hints ≡ front ++ c ∷ [])
