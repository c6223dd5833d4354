-- How far apart the rows of a log are over all timings that it admits.
use Rattle.std.specs.Prelude.{◌⊎◌, ℕ, ◌<◌, ◌≤◌, ◌≡◌, Bool, true, ◌&&◌, if◌then◌else◌, nat_lt, length, ℤ, pos, int_le}
use Rattle.std.specs.Option.{option_map_or}
use Rattle.mt_model.specs.declared.tree.Interval.{Interval}
use Rattle.mt_model.specs.Log.{Logged}
use Rattle.skew_bounds.specs.Differences.{Differences}
use Rattle.skew_bounds.specs.Tight.{IsGreatestDifference, IsLeastDifference, events_of, greatest_of, least_of}
use Rattle.formula_arena.specs.declared.direction.Direction.{Direction}
use Rattle.formula_arena.specs.declared.direction.Direction.TheVariants.{Ahead, Behind}

-- how much later than event e event f is at most, and at least
pub record Extremes : Type 0 where
  pub greatest : ℕ → ℕ → ℤ
  pub least : ℕ → ℕ → ℤ

-- over all timings that the log admits, and 0 where there is no such event
pub record AreExtremes (log : Logged) (x : Extremes) : Type 0 where
  pub greatest : (e f : ℕ) → e < length log.rows → f < length log.rows → IsGreatestDifference log e f (x.greatest e f)
  pub least : (e f : ℕ) → e < length log.rows → f < length log.rows → IsLeastDifference log e f (x.least e f)
  pub greatest_beyond : (e f : ℕ) → (length log.rows ≤ e) ⊎ (length log.rows ≤ f) → x.greatest e f ≡ pos 0
  pub least_beyond : (e f : ℕ) → (length log.rows ≤ e) ⊎ (length log.rows ≤ f) → x.least e f ≡ pos 0

-- those that a table of differences tells
abbrev pub extremes_of : Differences → Extremes
extremes_of d = record {
  greatest = λ e f. if nat_lt e (events_of d) && nat_lt f (events_of d) then greatest_of d e f else pos 0;
  least = λ e f. if nat_lt e (events_of d) && nat_lt f (events_of d) then least_of d e f else pos 0;
}

module _ (x : Extremes) where
  -- how far event j is from event i at most, as a node looks, and at least
  abbrev pub farthest : Direction → ℕ → ℕ → ℤ
  farthest Ahead i j = x.greatest i j
  farthest Behind i j = x.greatest j i

  abbrev pub nearest : Direction → ℕ → ℕ → ℤ
  nearest Ahead i j = x.least i j
  nearest Behind i j = x.least j i

  -- a pair of events is live for an interval where its distance may be in it: some number of the interval lies from the least to the greatest distance
  abbrev pub is_live : Direction → Interval → ℕ → ℕ → Bool
  is_live direction I i j = int_le (pos I.low) (farthest direction i j) && option_map_or (λ b. int_le (nearest direction i j) (pos b)) I.high true
