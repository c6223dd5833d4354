-- The walk as it is kept.
use Rattle.std.specs.Prelude.{ℕ, ◌+◌, List, ◌∷◌, reverse}
use Rattle.clause_db.specs.declared.lit.Lit.{Lit}
use Rattle.propagate.specs.Trails.{Assigned}
use Rattle.analyze.specs.declared.resolve.Work.{Work}
use Rattle.analyze.specs.Resolving.{IsWork}

-- the walk has come down to a place, with the hints kept from the last one
abbrev pub IsWorking : Assigned → List (List Lit) → ℕ → ℕ → Work → Type 0
IsWorking t db conflict place w = IsWork t db conflict place w.marked.keys w.aside.items (reverse w.hints.items)

-- the walk has come down to the place after this one, whose mark was taken away
abbrev pub HasTaken : Assigned → List (List Lit) → ℕ → ℕ → Work → Type 0
HasTaken t db conflict place w = IsWork t db conflict (place + 1) (place ∷ w.marked.keys) w.aside.items (reverse w.hints.items)
