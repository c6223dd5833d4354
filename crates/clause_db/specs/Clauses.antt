-- Clauses by their references, which count from 0.
use Rattle.std.specs.Prelude.{ℕ, ◌<◌, List, [], length, map, slice_index_or, All}
use Rattle.clause_db.specs.declared.lit.Lit.{Lit}

-- the clause of a reference
abbrev pub clause_at : List (List Lit) → ℕ → List Lit
clause_at clauses c = slice_index_or clauses c []

-- the clauses of these references, in their order
abbrev pub clauses_at : List (List Lit) → List ℕ → List (List Lit)
clauses_at clauses refs = map (clause_at clauses) refs

-- each of these references is that of a clause
abbrev pub AreHeld : List (List Lit) → List ℕ → Type 0
AreHeld clauses refs = All (λ c. c < length clauses) refs
