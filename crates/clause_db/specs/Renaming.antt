-- Clauses over other variables.
use Rattle.std.specs.Prelude.{◌≡◌, ℕ, ◌<◌, List, length, All, slice_index}
use Rattle.clause_db.specs.declared.lit.Lit.{Lit}

-- the literal of the same sense whose variable stands in the list at the place that is the literal's own variable
abbrev pub moved : List ℕ → Lit → Lit
moved places l = record { var = slice_index places l.var; positive = l.positive }

-- the variables of clauses are below n
abbrev pub AreBelow : ℕ → List (List Lit) → Type 0
AreBelow n clauses = All (λ lits. All (λ l. l.var < n) lits) clauses

-- no two variables have one place
abbrev pub AreApart : List ℕ → Type 0
AreApart places = (v w : ℕ) → v < length places → w < length places → slice_index places v ≡ slice_index places w → v ≡ w
