-- Which timings a log of version 1 admits, whose clocks have one skew and one gap each, and whose messages have no latency; and the states that its propositions have, which are set and cleared alone.
use Rattle.std.specs.Prelude.{◌≡◌, ◌↔◌, ℕ, ◌<◌, List, [], length, All, Some, None, Bool, false, slice_get, ℤ, pos, ◌+ℤ◌, ◌-ℤ◌, ◌≤ℤ◌}
use Rattle.std.specs.Option.{option_map_or}
use Rattle.mt_model.specs.declared.log.Host.{Host}
use Rattle.mt_model.specs.declared.log.Extra.{Extra}
use Rattle.mt_model.specs.declared.limits.TheConstants.{MIN_DELAY}
use Rattle.mt_model.specs.Log.{Logged, is_pulse}
use Rattle.mt_model.specs.State.{last_change, state}
use Rattle.mt_model.specs.Timing.{Admissible, declared_gap, declared_skew, local_of, previous_row, send_of, time_of}

-- what a host receives takes at least 1, and no more is said of it
pub record HasNoLatency (h : Host) : Type 0 where
  pub least : h.least ≡ MIN_DELAY
  pub most : h.most ≡ None

-- no host is resynchronised or has a latency, and there is no reading of a clock
pub record IsVersionOne (log : Logged) : Type 0 where
  pub no_resyncs : log.resyncs ≡ []
  pub no_latencies : All HasNoLatency log.hosts
  pub no_readings : log.readings ≡ []

-- the log admits the timing, by the skews and gaps with which its hosts were declared, the delay 1 of messages, and the extra bounds
pub record Admissible1 (log : Logged) (t : List ℤ) : Type 0 where
  pub count : length t ≡ length log.rows
  -- a true time differs from the row's local time by at most the skew of its host
  pub low : (e : ℕ) → e < length log.rows → (local_of log e -ℤ declared_skew log e) ≤ℤ time_of t e
  pub high : (e : ℕ) → e < length log.rows → time_of t e ≤ℤ (local_of log e +ℤ declared_skew log e)
  -- a row comes at least the gap of its host after the row before it there
  pub rise : (e f : ℕ) → f < length log.rows → previous_row log f ≡ Some e → (time_of t e +ℤ declared_gap log f) ≤ℤ time_of t f
  -- a receive comes at least 1 after the send of its message
  pub message : (s r : ℕ) → r < length log.rows → send_of log r ≡ Some s → (time_of t s +ℤ pos 1) ≤ℤ time_of t r
  -- the extra bounds hold
  pub extra : (k : ℕ) (x : Extra) → slice_get log.extras k ≡ Some x → (time_of t x.e -ℤ time_of t x.f) ≤ℤ x.c

-- a log without resyncs, latencies and readings admits the timings that it admitted in version 1, and no others
abbrev pub VersionOneIsKept : Type 0
VersionOneIsKept = (log : Logged) (t : List ℤ) → IsVersionOne log → Admissible log t ↔ Admissible1 log t

-- no act is a pulse
abbrev pub HasNoPulses : Logged → Type 0
HasNoPulses log = All (λ r. is_pulse r.act ≡ false) log.rows

-- the state of a host's proposition at an instant, without pulses: true where there is a last change up to it and that one sets the proposition
abbrev pub state1 : Logged → List ℤ → ℤ → ℕ → List ℕ → Bool
state1 log t instant host name = option_map_or (λ c. c.sets) (last_change log t instant host name) false

-- in a log without pulses a proposition has the states that it had in version 1
abbrev pub StatesOfVersionOneAreKept : Type 0
StatesOfVersionOneAreKept = (log : Logged) (t : List ℤ) (instant : ℤ) (host : ℕ) (name : List ℕ) → HasNoPulses log → state log t instant host name ≡ state1 log t instant host name
