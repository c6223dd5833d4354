-- The last change and the last pulse of a proposition among the rows up to an instant.
use Rattle.std.specs.Prelude.{◌≡◌, ◌<◌, ◌≤◌, ℕ, ℤ, List, length, Bool, true, false, Option, is_some, MatchOption, ◌≤ℤ◌, ◌<ℤ◌}
use Rattle.std.specs.Option.{option_map_or}
use Rattle.mt_model.specs.Log.{Logged}
use Rattle.mt_model.specs.State.{change_at}
use Rattle.witness_replay.specs.LatestPulses.{last_pulse}
use Rattle.witness_replay.specs.Timelines.{moment_at}
use Rattle.witness_replay.specs.declared.states.Latest.{Latest}
use Rattle.witness_replay.specs.declared.timeline.Moment.{Moment}

-- row e changes a host's proposition
abbrev pub is_change : Logged → ℕ → List ℕ → ℕ → Bool
is_change log host name e = is_some (change_at log host name e)

-- the row at place k changes it
abbrev pub changes_at : Logged → List Moment → ℕ → List ℕ → ℕ → Bool
changes_at log moments host name k = is_change log host name (moment_at moments k).row

-- row r is that of one of the first places, passes a test, and no other row of them that does is after it in the log
pub record IsLastOf (test : ℕ → Bool) (moments : List Moment) (places r : ℕ) : Type 0 where
  pub place : ℕ
  pub within : place < places
  pub there : (moment_at moments place).row ≡ r
  pub passed : test r ≡ true
  pub last : (k : ℕ) → k < places → test (moment_at moments k).row ≡ true → (moment_at moments k).row ≤ r

-- the last row in the log that changes a host's proposition, of those of the first places
abbrev pub IsLastChange : Logged → List Moment → ℕ → List ℕ → ℕ → Option ℕ → Type 0
IsLastChange log moments host name places row = MatchOption row ((k : ℕ) → k < places → changes_at log moments host name k ≡ false) (IsLastOf (is_change log host name) moments places)

-- what a row makes of a host's proposition, and false where there is none
abbrev pub state_after : Logged → ℕ → List ℕ → Option ℕ → Bool
state_after log host name row = option_map_or (λ r. option_map_or (λ c. c.sets) (change_at log host name r) false) row false

-- of the first places the last change of a host's proposition, whether it sets it, and the last pulse
pub record IsLatest (log : Logged) (moments : List Moment) (host : ℕ) (name : List ℕ) (latest : Latest) : Type 0 where
  pub change : IsLastChange log moments host name latest.places latest.row
  pub sets : latest.sets ≡ state_after log host name latest.row
  pub pulse : latest.pulse ≡ last_pulse log moments host name latest.places

-- the first places are at most at an instant
abbrev pub AreBy : List Moment → ℤ → ℕ → Type 0
AreBy moments instant places = (k : ℕ) → k < places → (moment_at moments k).time ≤ℤ instant

-- and those from them on are after it
abbrev pub AreAfter : List Moment → ℤ → ℕ → Type 0
AreAfter moments instant places = (k : ℕ) → places ≤ k → k < length moments → instant <ℤ (moment_at moments k).time
