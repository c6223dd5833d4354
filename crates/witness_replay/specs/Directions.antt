-- The rows of a timing as an operator meets them.
use Rattle.std.specs.Prelude.{ℕ, List, Bool, ℤ, pos, ◌-ℤ◌, int_le}
use Rattle.mt_model.specs.declared.tree.Interval.{Interval}
use Rattle.mt_model.specs.Frame.{Frame}
use Rattle.mt_model.specs.Timing.{time_of}
use Rattle.mt_model.specs.Truth.{rows_in}
use Rattle.formula_arena.specs.declared.direction.Direction.{Direction}
use Rattle.formula_arena.specs.declared.direction.Direction.TheVariants.{Ahead, Behind}
use Rattle.formula_arena.specs.Directions.{met, is_near as is_near_in}

-- the rows, in the order in which they are met
abbrev pub rows_from : Direction → List ℤ → Frame ℕ
rows_from direction t = met direction (rows_in t)

-- how far the second row is from the first one is in the interval
abbrev pub is_near : Direction → List ℤ → Interval → ℕ → ℕ → Bool
is_near direction t I = is_near_in direction (rows_in t) I

-- how far the second row is from the first one on
abbrev pub distance_from : Direction → List ℤ → ℕ → ℕ → ℤ
distance_from Ahead t e m = time_of t m -ℤ time_of t e
distance_from Behind t e m = time_of t e -ℤ time_of t m

-- that is at least so much
abbrev pub is_far : Direction → List ℤ → ℕ → ℕ → ℕ → Bool
is_far direction t low e m = int_le (pos low) (distance_from direction t e m)
