-- The last pulse of a proposition among the rows up to an instant.
use Rattle.std.specs.Prelude.{ℕ, ℤ, List, Bool, false, Option}
use Rattle.std.specs.Option.{option_map_or}
use Rattle.std.specs.Ordering.{int_eq}
use Rattle.mt_model.specs.Log.{Logged}
use Rattle.mt_model.specs.State.{is_pulse_at}
use Rattle.mt_model.specs.Timing.{last_below}
use Rattle.witness_replay.specs.Timelines.{moment_at}
use Rattle.witness_replay.specs.declared.timeline.Moment.{Moment}

-- the row at place k pulses a host's proposition
abbrev pub pulses_at : Logged → List Moment → ℕ → List ℕ → ℕ → Bool
pulses_at log moments host name k = is_pulse_at log host name (moment_at moments k).row

-- the last of the first places whose row pulses it
abbrev pub last_pulse : Logged → List Moment → ℕ → List ℕ → ℕ → Option ℕ
last_pulse log moments host name places = last_below (pulses_at log moments host name) places

-- the time at a place, where there is one, is an instant
abbrev pub is_pulsed_at : List Moment → ℤ → Option ℕ → Bool
is_pulsed_at moments instant pulse = option_map_or (λ p. int_eq (moment_at moments p).time instant) pulse false
