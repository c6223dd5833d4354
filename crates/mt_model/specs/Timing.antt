-- Timings, and which of them a log admits. A timing is a list of whole numbers, one per row: the rows' true times.
use Rattle.std.specs.Prelude.{◌≡◌, ℕ, zero, suc, ◌==◌, ◌<◌, List, length, nat_le, ◌&&◌, Bool, false, Option, Some, None, if◌then◌else◌, slice_get, slice_index_or, find, position, reverse, bytes_eq, option_map, option_and_then, ℤ, pos, ◌+ℤ◌, ◌-ℤ◌, ◌≤ℤ◌}
use Rattle.std.specs.Option.{option_map_or}
use Rattle.mt_model.specs.declared.log.Row.{Row}
use Rattle.mt_model.specs.declared.resync.Resync.{Resync}
use Rattle.mt_model.specs.declared.reading.Reading.{Reading}
use Rattle.mt_model.specs.declared.log.Extra.{Extra}
use Rattle.mt_model.specs.declared.limits.TheConstants.{MIN_DELAY}
use Rattle.mt_model.specs.Log.{Logged, sent_by, received_by}

-- the true time of row e
abbrev pub time_of : List ℤ → ℕ → ℤ
time_of t e = slice_index_or t e (pos 0)

-- the local time of row e
abbrev pub local_of : Logged → ℕ → ℤ
local_of log e = option_map_or (λ r. r.local) (slice_get log.rows e) (pos 0)

-- the host of row e
abbrev pub host_of : Logged → ℕ → ℕ
host_of log e = option_map_or (λ r. r.host) (slice_get log.rows e) 0

-- the skew and the gap with which the host of row e was declared
abbrev pub declared_skew : Logged → ℕ → ℤ
declared_skew log e = option_map_or (λ h. h.skew) (slice_get log.hosts (host_of log e)) (pos 0)

abbrev pub declared_gap : Logged → ℕ → ℤ
declared_gap log e = option_map_or (λ h. h.gap) (slice_get log.hosts (host_of log e)) (pos 0)

-- a resync is of row e's host and does not stand behind the row
abbrev pub applies_to : Logged → ℕ → Resync → Bool
applies_to log e r = r.host == host_of log e && nat_le r.place e

-- the last resync of row e's host that does not stand behind the row
abbrev pub resync_of : Logged → ℕ → Option Resync
resync_of log e = find (applies_to log e) (reverse log.resyncs)

-- by how much the local time of row e may differ from its true time
abbrev pub skew_of : Logged → ℕ → ℤ
skew_of log e = option_map_or (λ r. r.skew) (resync_of log e) (declared_skew log e)

-- how long after the row before it, on its host, row e comes at least
abbrev pub gap_of : Logged → ℕ → ℤ
gap_of log e = option_map_or (λ r. r.gap) (resync_of log e) (declared_gap log e)

-- a reading is of row e's host and does not stand behind the row
abbrev pub is_read_at : Logged → ℕ → Reading → Bool
is_read_at log e r = r.host == host_of log e && nat_le r.place e

-- the last reading of row e's host that does not stand behind the row
abbrev pub reading_of : Logged → ℕ → Option Reading
reading_of log e = find (is_read_at log e) (reverse log.readings)

-- the clock that the stamp of row e is read from, where there is one
abbrev pub clock_of : Logged → ℕ → Option ℕ
clock_of log e = option_map (λ r. r.clock) (reading_of log e)

-- by how much that stamp may differ from what the clock shows
abbrev pub error_of : Logged → ℕ → ℤ
error_of log e = option_map_or (λ r. r.error) (reading_of log e) (pos 0)

-- the greatest number below n that passes the test
abbrev pub last_below : (ℕ → Bool) → ℕ → Option ℕ
last_below test zero = None
last_below test (suc n) = if test n then Some n else last_below test n

-- the last row before row f that is of its host
abbrev pub previous_row : Logged → ℕ → Option ℕ
previous_row log f = last_below (λ e. host_of log e == host_of log f) f

-- whether a row sends the message
abbrev pub is_send_of : List ℕ → Row → Bool
is_send_of message q = option_map_or (λ m. bytes_eq m message) (sent_by q.act) false

-- the message that row r receives
abbrev pub received_in : Logged → ℕ → Option (List ℕ)
received_in log r = option_and_then (λ x. received_by x.act) (slice_get log.rows r)

-- the row that sends the message that row r receives
abbrev pub send_of : Logged → ℕ → Option ℕ
send_of log r = option_and_then (λ message. position (is_send_of message) log.rows) (received_in log r)

-- how long after its send the receive r comes at least, which its host says
abbrev pub least_delay : Logged → ℕ → ℤ
least_delay log r = option_map_or (λ h. pos h.least) (slice_get log.hosts (host_of log r)) (pos MIN_DELAY)

-- how long after its send the receive r comes at most, where its host says so
abbrev pub most_delay : Logged → ℕ → Option ℤ
most_delay log r = option_and_then (λ h. option_map pos h.most) (slice_get log.hosts (host_of log r))

-- offsets, one per clock: the true time less what the clock shows. The local time of each row that reads a clock differs from what the clock shows then by at most the error of the reading
pub record AreOffsets (log : Logged) (t offsets : List ℤ) : Type 0 where
  pub count : length offsets ≡ length log.clocks
  pub under : (e k : ℕ) → e < length log.rows → clock_of log e ≡ Some k → (local_of log e -ℤ error_of log e) ≤ℤ (time_of t e -ℤ time_of offsets k)
  pub over : (e k : ℕ) → e < length log.rows → clock_of log e ≡ Some k → (time_of t e -ℤ time_of offsets k) ≤ℤ (local_of log e +ℤ error_of log e)

-- there are such offsets
pub record HasOffsets (log : Logged) (t : List ℤ) : Type 0 where
  pub offsets : List ℤ
  pub are : AreOffsets log t offsets

-- the log admits the timing
pub record Admissible (log : Logged) (t : List ℤ) : Type 0 where
  pub count : length t ≡ length log.rows
  -- a true time differs from the row's local time by at most the skew
  pub low : (e : ℕ) → e < length log.rows → (local_of log e -ℤ skew_of log e) ≤ℤ time_of t e
  pub high : (e : ℕ) → e < length log.rows → time_of t e ≤ℤ (local_of log e +ℤ skew_of log e)
  -- a row comes at least its gap after the row before it on its host
  pub rise : (e f : ℕ) → f < length log.rows → previous_row log f ≡ Some e → (time_of t e +ℤ gap_of log f) ≤ℤ time_of t f
  -- a receive comes at least the least delay after the send of its message
  pub message : (s r : ℕ) → r < length log.rows → send_of log r ≡ Some s → (time_of t s +ℤ least_delay log r) ≤ℤ time_of t r
  -- and at most the greatest delay, where there is one
  pub late : (s r : ℕ) (most : ℤ) → r < length log.rows → send_of log r ≡ Some s → most_delay log r ≡ Some most → time_of t r ≤ℤ (time_of t s +ℤ most)
  -- the extra bounds hold
  pub extra : (k : ℕ) (x : Extra) → slice_get log.extras k ≡ Some x → (time_of t x.e -ℤ time_of t x.f) ≤ℤ x.c
  -- each clock keeps its offset
  pub clocks : HasOffsets log t
