-- Lists of clauses that begin with others.
use Rattle.std.specs.Prelude.{◌≡◌, List, ◌++◌}
use Rattle.clause_db.specs.declared.lit.Lit.{Lit}

-- the clauses begin with these
abbrev pub Extends : List (List Lit) → List (List Lit) → Type 0
Extends old new = (added : List (List Lit)) × (new ≡ old ++ added)
