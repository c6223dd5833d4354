-- The nearest row from a row on at which a side has a value.
use Rattle.std.specs.Prelude.{◌≡◌, ◌<◌, ◌≤◌, ◌-◌, ◌&&◌, nat_lt, ℕ, ℤ, List, length, Bool, true, false, not, cond, MatchOption}
use Rattle.formula_arena.specs.declared.direction.Direction.{Direction}
use Rattle.witness_replay.specs.Columns.{value_at}
use Rattle.witness_replay.specs.Directions.{is_far}
use Rattle.witness_replay.specs.Timelines.{row_met}
use Rattle.witness_replay.specs.declared.timeline.Moment.{Moment}
use Rattle.witness_replay.specs.declared.timeline.Timeline.{Timeline}
use Rattle.witness_replay.specs.declared.sweep.Sweep.{Sweep}

-- a side has a value at row e
abbrev pub has_value : Bool → List Bool → ℕ → Bool
has_value value side e = cond value (value_at side e) (not (value_at side e))

-- a side has a value at the row of place k
abbrev pub is_hit : Direction → List Moment → Bool → List Bool → ℕ → Bool
is_hit direction moments value side k = has_value value side (row_met direction moments k)

-- h is the first of the places from one on, below a number, at which a test holds
pub record IsFirstHit (test : ℕ → Bool) (place places h : ℕ) : Type 0 where
  pub from : place ≤ h
  pub within : h < places
  pub hit : test h ≡ true
  pub first : (k : ℕ) → place ≤ k → k < places → test k ≡ true → h ≤ k

-- a sweep over the places below a number knows the first hit among those that it has taken in
pub record IsSwept (test : ℕ → Bool) (places : ℕ) (sweep : Sweep) : Type 0 where
  pub within : sweep.place ≤ places
  pub known : MatchOption sweep.hit ((k : ℕ) → sweep.place ≤ k → k < places → test k ≡ false) (IsFirstHit test sweep.place places)

-- there is a place before this one, and its row is at least so far from row e on
abbrev pub is_far_before : Direction → Timeline → ℕ → ℕ → ℕ → Bool
is_far_before direction line low e place = nat_lt 0 place && is_far direction line.times.now low e (row_met direction line.moments.now (place - 1))

-- the rows at the places from one on are at least so far from row e on
abbrev pub AreFar : Direction → List ℤ → List Moment → ℕ → ℕ → ℕ → Type 0
AreFar direction t moments low e place = (k : ℕ) → place ≤ k → k < length t → is_far direction t low e (row_met direction moments k) ≡ true

-- and those before it aren't
abbrev pub AreNear : Direction → List ℤ → List Moment → ℕ → ℕ → ℕ → Type 0
AreNear direction t moments low e place = (k : ℕ) → k < place → is_far direction t low e (row_met direction moments k) ≡ false
