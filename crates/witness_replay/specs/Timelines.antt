-- The rows of a timing in the order of their times.
use Rattle.std.specs.Prelude.{◌≡◌, ◌<◌, ◌≤◌, ◌-◌, ℕ, List, length, All, Contains, slice_index_or, ℤ, pos, ◌≤ℤ◌}
use Rattle.mt_model.specs.Timing.{time_of}
use Rattle.formula_arena.specs.declared.direction.Direction.{Direction}
use Rattle.formula_arena.specs.declared.direction.Direction.TheVariants.{Ahead, Behind}
use Rattle.witness_replay.specs.declared.timeline.Moment.{Moment}

-- row e at its time
abbrev pub moment_of : List ℤ → ℕ → Moment
moment_of t e = record { time = time_of t e; row = e }

-- the moment at a place
abbrev pub moment_at : List Moment → ℕ → Moment
moment_at moments k = slice_index_or moments k (record { time = pos 0; row = 0 })

-- none of the moments at the first places is earlier than one before it
abbrev pub AreRising : List Moment → ℕ → Type 0
AreRising moments places = (i j : ℕ) → i ≤ j → j < places → (moment_at moments i).time ≤ℤ (moment_at moments j).time

-- the rows of a timing, each of them at its time, none earlier than one before it
pub record IsTimeline (t : List ℤ) (moments : List Moment) : Type 0 where
  pub full : length moments ≡ length t
  pub rows : All (λ m. (m.row < length t) × (m.time ≡ time_of t m.row)) moments
  pub each : (e : ℕ) → e < length t → Contains moments (moment_of t e)
  pub rising : AreRising moments (length t)

-- the row at a place, where the rows are met in a direction
abbrev pub row_met : Direction → List Moment → ℕ → ℕ
row_met Ahead moments k = (moment_at moments k).row
row_met Behind moments k = (moment_at moments (length moments - 1 - k)).row
