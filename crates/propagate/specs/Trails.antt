-- Trails: the literals in the order in which they were assigned, each with its level and its reason, and the watched literals.
use Rattle.std.specs.Prelude.{◌≡◌, ◌≢◌, ◌↔◌, ℕ, ◌+◌, ◌<◌, ◌≤◌, List, [], ◌∷◌, ◌++◌, length, map, filter, take, false, Some, None, IsNone, All, Any, AllPairs, slice_index_or, nat_le, min}
use Rattle.clause_db.specs.declared.lit.Lit.{Lit}
use Rattle.propagate.specs.declared.entry.Entry.{Entry}
use Rattle.propagate.specs.declared.entry.Level.{Level}
use Rattle.propagate.specs.Watching.{Watching, AreListed, unwatched}

-- a trail over variables below a number: its literals with what is kept for each, its levels above 0, the lowest first, what
-- is watched, and how many of the literals, from the first on, are propagated: the next one is the head
pub record Assigned : Type 0 where
  pub vars : ℕ
  pub entries : List Entry
  pub levels : List Level
  pub watching : Watching
  pub propagated : ℕ

-- the literals, in the order of assignment
abbrev pub literals : List Entry → List Lit
literals entries = map (λ e. e.lit) entries

-- what stands for a place that no literal has, and for a level that there isn't
abbrev pub no_entry : Entry
no_entry = record { lit = record { var = 0; positive = false }; level = 0; reason = None }

abbrev pub no_level : Level
no_level = record { start = 0; mark = 0 }

-- the entry at a place
abbrev pub entry_at : List Entry → ℕ → Entry
entry_at entries k = slice_index_or entries k no_entry

-- the place of the first literal of level j + 1
abbrev pub start_of : List Level → ℕ → ℕ
start_of levels j = (slice_index_or levels j no_level).start

-- how many edges the graph held when level j + 1 began
abbrev pub mark_of : List Level → ℕ → ℕ
mark_of levels j = (slice_index_or levels j no_level).mark

-- no literal of the variable is assigned
abbrev pub IsUnassigned : List Entry → ℕ → Type 0
IsUnassigned entries v = All (λ e. e.lit.var ≢ v) entries

-- a literal of the variable is on the trail
abbrev pub IsAssigned : List Entry → ℕ → Type 0
IsAssigned entries v = Any (λ e. e.lit.var ≡ v) entries

-- the entry of the variable has this
abbrev pub HasEntry : List Entry → ℕ → (Entry → Type 0) → Type 0
HasEntry entries v P = Any (λ e. (e.lit.var ≡ v) × P e) entries

-- how levels and decisions lie on the trail
pub record AreLevels (entries : List Entry) (levels : List Level) : Type 0 where
  -- no literal has a level above the present one
  pub top : (k : ℕ) → k < length entries → (entry_at entries k).level ≤ length levels
  -- the literals from the start of a level on, and no others, have at least that level
  pub reached : (j k : ℕ) → j < length levels → k < length entries → (start_of levels j ≤ k) ↔ (j < (entry_at entries k).level)
  -- each level above 0 has a first literal, which is a decision
  pub within : (j : ℕ) → j < length levels → start_of levels j < length entries
  pub first : (j : ℕ) → j < length levels → (entry_at entries (start_of levels j)).level ≡ j + 1
  pub decided : (j : ℕ) → j < length levels → IsNone (entry_at entries (start_of levels j)).reason
  -- no other literal is one
  pub only : (k : ℕ) → k < length entries → IsNone (entry_at entries k).reason → (j : ℕ) × (j < length levels) × (start_of levels j ≡ k)

-- variables are in range, none is assigned twice, the levels lie as they should, no more literals are propagated than there are,
-- each variable has its watchers, each clause stands among those of its watched literals, and of the clauses without these no
-- more count as satisfied than there are
pub record IsTrail (t : Assigned) : Type 0 where
  pub below : All (λ e. e.lit.var < t.vars) t.entries
  pub once : AllPairs (λ d e. d.lit.var ≢ e.lit.var) t.entries
  pub levels : AreLevels t.entries t.levels
  pub propagated : t.propagated ≤ length t.entries
  pub lists : length t.watching.watchers ≡ t.vars
  pub listed : AreListed t.watching
  pub satisfied : t.watching.satisfied ≤ length (unwatched t.watching.watches)

-- the trail with one more literal of the present level, which follows from a clause
abbrev pub followed : Assigned → Lit → ℕ → Assigned
followed t lit c = record { vars = t.vars; entries = t.entries ++ record { lit = lit; level = length t.levels; reason = Some c } ∷ []; levels = t.levels; watching = t.watching; propagated = t.propagated }

-- the trail with one more level, which begins with a decided literal where the graph held so many edges
abbrev pub decided : Assigned → Lit → ℕ → Assigned
decided t lit mark = record {
  vars = t.vars;
  entries = t.entries ++ record { lit = lit; level = length t.levels + 1; reason = None } ∷ [];
  levels = t.levels ++ record { start = length t.entries; mark = mark } ∷ [];
  watching = t.watching;
  propagated = t.propagated;
}

-- the entries of levels up to m
abbrev pub up_to : ℕ → List Entry → List Entry
up_to m entries = filter (λ e. nat_le e.level m) entries

-- the trail without the levels above m, where no more literals are propagated than are left
abbrev pub cut_to : ℕ → Assigned → Assigned
cut_to m t = record { vars = t.vars; entries = up_to m t.entries; levels = take m t.levels; watching = t.watching; propagated = min t.propagated (length (up_to m t.entries)) }

-- the trail with other watched literals, and so many literals propagated
abbrev pub rewatched : Assigned → Watching → ℕ → Assigned
rewatched t w propagated = record { vars = t.vars; entries = t.entries; levels = t.levels; watching = w; propagated = propagated }

-- no literal of the present level is propagated
abbrev pub IsUnpropagated : Assigned → Type 0
IsUnpropagated t = (k : ℕ) → k < t.propagated → (entry_at t.entries k).level < length t.levels
