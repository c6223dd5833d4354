-- Trails whose lower levels leave nothing to propagate.
use Rattle.std.specs.Prelude.{ℕ, ◌<◌, List, length}
use Rattle.clause_db.specs.declared.lit.Lit.{Lit}
use Rattle.propagate.specs.Trails.{Assigned, up_to}
use Rattle.propagate.specs.Clauses.{AreSettled}

-- the literals of levels up to m make no clause false, and leave none unit
abbrev pub ClosedAt : Assigned → List (List Lit) → ℕ → Type 0
ClosedAt t db m = AreSettled (up_to m t.entries) db

-- so it is at each level below the present one
abbrev pub Closed : Assigned → List (List Lit) → Type 0
Closed t db = (m : ℕ) → m < length t.levels → ClosedAt t db m
