-- Which timings a log of version 2 admits, which has no clocks.
use Rattle.std.specs.Prelude.{◌≡◌, ◌↔◌, ℕ, ◌<◌, List, [], length, Some, slice_get, ℤ, ◌+ℤ◌, ◌-ℤ◌, ◌≤ℤ◌}
use Rattle.mt_model.specs.declared.log.Extra.{Extra}
use Rattle.mt_model.specs.Log.{Logged}
use Rattle.mt_model.specs.Timing.{Admissible, gap_of, least_delay, local_of, most_delay, previous_row, send_of, skew_of, time_of}

-- the log admits the timing, by skews, gaps, delays and extra bounds alone
pub record Admissible2 (log : Logged) (t : List ℤ) : Type 0 where
  pub count : length t ≡ length log.rows
  -- a true time differs from the row's local time by at most the skew
  pub low : (e : ℕ) → e < length log.rows → (local_of log e -ℤ skew_of log e) ≤ℤ time_of t e
  pub high : (e : ℕ) → e < length log.rows → time_of t e ≤ℤ (local_of log e +ℤ skew_of log e)
  -- a row comes at least its gap after the row before it on its host
  pub rise : (e f : ℕ) → f < length log.rows → previous_row log f ≡ Some e → (time_of t e +ℤ gap_of log f) ≤ℤ time_of t f
  -- a receive comes at least the least delay after the send of its message
  pub message : (s r : ℕ) → r < length log.rows → send_of log r ≡ Some s → (time_of t s +ℤ least_delay log r) ≤ℤ time_of t r
  -- and at most the greatest delay, where there is one
  pub late : (s r : ℕ) (most : ℤ) → r < length log.rows → send_of log r ≡ Some s → most_delay log r ≡ Some most → time_of t r ≤ℤ (time_of t s +ℤ most)
  -- the extra bounds hold
  pub extra : (k : ℕ) (x : Extra) → slice_get log.extras k ≡ Some x → (time_of t x.e -ℤ time_of t x.f) ≤ℤ x.c

-- a log without readings admits the timings that it admitted in version 2, and no others
abbrev pub VersionTwoIsKept : Type 0
VersionTwoIsKept = (log : Logged) (t : List ℤ) → log.readings ≡ [] → Admissible log t ↔ Admissible2 log t
