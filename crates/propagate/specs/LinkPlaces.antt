-- How links are stored: where the edges of each variable stand among all edges.
use Rattle.std.specs.Prelude.{◌≡◌, ℕ, ◌+◌, ◌^◌, ◌<◌, ◌≤◌, List, length, Bool, true, false, Option, Some, None, slice_get, slice_index_or}
use Rattle.std.specs.List.{count_by}
use Rattle.neg_cycle.specs.declared.system.Edge.{Edge}

-- the edges at a place, if there is one
abbrev pub pair_at : List (Edge × Edge) → Option ℕ → Option (Edge × Edge)
pair_at edges None = None
pair_at edges (Some k) = slice_get edges k

-- a variable without edges
abbrev pub is_free : Option ℕ → Bool
is_free None = true
is_free (Some k) = false

-- each place is one of so many, no two variables have the same, and there is room for the edges of those that have none
pub record ArePlaces (places : List (Option ℕ)) (count capacity : ℕ) : Type 0 where
  pub below : (v k : ℕ) → slice_index_or places v None ≡ Some k → k < count
  pub apart : (v w k : ℕ) → slice_index_or places v None ≡ Some k → slice_index_or places w None ≡ Some k → v ≡ w
  pub all : count + count_by is_free places ≡ length places
  pub few : length places < 2 ^ 32
  pub room : length places ≤ capacity
