-- How a trail is stored.
use Rattle.std.specs.Prelude.{◌≡◌, ℕ, ◌^◌, ◌<◌, ◌≤◌, List, length, Bool, Option, Some, None, slice_index_or}
use Rattle.propagate.specs.declared.entry.Entry.{Entry}
use Rattle.propagate.specs.declared.entry.Level.{Level}
use Rattle.propagate.specs.Watching.{Watching}
use Rattle.propagate.specs.Trails.{IsTrail, entry_at}

-- the table has the place of each variable that is assigned, and none for the others
pub record IsTable (entries : List Entry) (places : List (Option ℕ)) : Type 0 where
  pub here : (k : ℕ) → k < length entries → slice_index_or places (entry_at entries k).lit.var None ≡ Some k
  pub there : (v k : ℕ) → slice_index_or places v None ≡ Some k → (k < length entries) × ((entry_at entries k).lit.var ≡ v)

-- the value of the literal at a place, if there is one
abbrev pub value_of : List Entry → Option ℕ → Option Bool
value_of entries None = None
value_of entries (Some k) = Some (entry_at entries k).lit.positive

-- each variable has the value that its literal gives it, and none where it is unassigned
pub record AreValues (entries : List Entry) (places : List (Option ℕ)) (values : List (Option Bool)) : Type 0 where
  pub count : length values ≡ length places
  pub is : (v : ℕ) → slice_index_or values v None ≡ value_of entries (slice_index_or places v None)

-- a trail with its table, and room for an entry and a level for each variable
pub record IsStored (entries : List Entry) (places : List (Option ℕ)) (levels : List Level) (watching : Watching) (propagated entry_capacity level_capacity : ℕ) : Type 0 where
  pub trail : IsTrail (record { vars = length places; entries = entries; levels = levels; watching = watching; propagated = propagated })
  pub table : IsTable entries places
  pub few : length places < 2 ^ 32
  pub entry_room : length places ≤ entry_capacity
  pub level_room : length places ≤ level_capacity

-- the same with the values of variables, which are at hand without the trail
pub record IsKept (entries : List Entry) (places : List (Option ℕ)) (values : List (Option Bool)) (levels : List Level) (watching : Watching) (propagated entry_capacity level_capacity : ℕ) : Type 0 where
  pub stored : IsStored entries places levels watching propagated entry_capacity level_capacity
  pub valued : AreValues entries places values
