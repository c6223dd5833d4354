-- Logs, and when one is valid.
use Rattle.std.specs.Prelude.{◌≡◌, ◌≢◌, ℕ, ◌<◌, ◌≤◌, List, [], ◌∷◌, ◌++◌, length, map, take, slice_index_or, All, AllPairs, Any, IfSome, Option, Some, None, Bool, true, false, ℤ, pos, ◌+ℤ◌, ◌≤ℤ◌}
use Rattle.mt_model.specs.declared.log.Host.{Host}
use Rattle.mt_model.specs.declared.log.Row.{Row}
use Rattle.mt_model.specs.declared.resync.Resync.{Resync}
use Rattle.mt_model.specs.declared.reading.Reading.{Reading}
use Rattle.mt_model.specs.declared.log.Extra.{Extra}
use Rattle.mt_model.specs.declared.log.Act.{Act}
use Rattle.mt_model.specs.declared.log.Act.TheVariants.{Set, Clear, Send, Recv, Note, Pulse}
use Rattle.mt_model.specs.declared.limits.TheConstants.{MAX_HOSTS, MAX_ROWS, MAX_CLOCKS, MAX_EXTRAS, MAX_WRITTEN_EXTRAS, MAX_LOCAL, MAX_SKEW, MAX_WRITTEN_SKEW, MAX_GAP, MAX_ERROR, MIN_DELAY, MAX_DELAY, MAX_EXTRA}
use Rattle.mt_model.specs.Name.{is_name, is_reserved}

-- a log: its hosts, its rows, its resyncs, the names of its clocks, the readings of them and its extra bounds, each in order
pub record Logged : Type 0 where
  pub hosts : List Host
  pub rows : List Row
  pub resyncs : List Resync
  pub clocks : List (List ℕ)
  pub readings : List Reading
  pub extras : List Extra

-- the log of these hosts, rows, resyncs, clocks, readings and extra bounds
abbrev pub logged : List Host → List Row → List Resync → List (List ℕ) → List Reading → List Extra → Logged
logged hosts rows resyncs clocks readings extras = record { hosts = hosts; rows = rows; resyncs = resyncs; clocks = clocks; readings = readings; extras = extras }

-- the log of these hosts, rows and resyncs, without clocks and extra bounds
abbrev pub log_with : List Host → List Row → List Resync → Logged
log_with hosts rows resyncs = record { hosts = hosts; rows = rows; resyncs = resyncs; clocks = []; readings = []; extras = [] }

-- the log of these hosts and rows, without resyncs, clocks and extra bounds
abbrev pub plain_log : List Host → List Row → Logged
plain_log hosts rows = record { hosts = hosts; rows = rows; resyncs = []; clocks = []; readings = []; extras = [] }

-- the name in an act: that of a proposition, of a message or of a note
abbrev pub name_in : Act → List ℕ
name_in (Set n) = n
name_in (Clear n) = n
name_in (Send m) = m
name_in (Recv m) = m
name_in (Note n) = n
name_in (Pulse n) = n

-- the message that an act sends
abbrev pub sent_by : Act → Option (List ℕ)
sent_by (Send m) = Some m
sent_by (Recv m) = None
sent_by (Set n) = None
sent_by (Clear n) = None
sent_by (Note n) = None
sent_by (Pulse n) = None

-- the message that an act receives
abbrev pub received_by : Act → Option (List ℕ)
received_by (Recv m) = Some m
received_by (Send m) = None
received_by (Set n) = None
received_by (Clear n) = None
received_by (Note n) = None
received_by (Pulse n) = None

-- whether an act is a pulse
abbrev pub is_pulse : Act → Bool
is_pulse (Pulse n) = true
is_pulse (Set n) = false
is_pulse (Clear n) = false
is_pulse (Send m) = false
is_pulse (Recv m) = false
is_pulse (Note n) = false

-- from -n to n
pub record IsWithin (n x : ℤ) : Type 0 where
  pub low : pos 0 ≤ℤ (x +ℤ n)
  pub high : x ≤ℤ n

-- the delays of what a host receives are in their range, and the greatest is not below the least
pub record HasDelays (h : Host) : Type 0 where
  pub least_low : MIN_DELAY ≤ h.least
  pub least_high : h.least ≤ MAX_DELAY
  pub most_low : IfSome h.most (λ most. h.least ≤ most)
  pub most_high : IfSome h.most (λ most. most ≤ MAX_DELAY)

-- a host's name is a name that is not reserved, and its skew, its gap and the delays of what it receives are in their ranges
pub record IsHost (h : Host) : Type 0 where
  pub called : is_name h.name ≡ true
  pub name : is_reserved h.name ≡ false
  pub skew_low : pos 0 ≤ℤ h.skew
  pub skew_high : h.skew ≤ℤ MAX_SKEW
  pub gap_low : pos 0 ≤ℤ h.gap
  pub gap_high : h.gap ≤ℤ MAX_GAP
  pub delays : HasDelays h

-- a row of a log of so many hosts
pub record IsRow (hosts : ℕ) (r : Row) : Type 0 where
  pub host : r.host < hosts
  pub local : IsWithin MAX_LOCAL r.local
  pub named : is_name (name_in r.act) ≡ true

-- a resync of a log of so many hosts and rows, some of which may stand before it
pub record IsResync (hosts rows : ℕ) (r : Resync) : Type 0 where
  pub host : r.host < hosts
  pub place : r.place ≤ rows
  pub skew_low : pos 0 ≤ℤ r.skew
  pub skew_high : r.skew ≤ℤ MAX_SKEW
  pub gap_low : pos 0 ≤ℤ r.gap
  pub gap_high : r.gap ≤ℤ MAX_GAP

-- resyncs of a log of so many hosts and rows: their places do not fall
pub record AreResyncs (hosts rows : ℕ) (resyncs : List Resync) : Type 0 where
  pub each : All (IsResync hosts rows) resyncs
  pub in_order : AllPairs (λ q r. q.place ≤ r.place) resyncs

-- some reading is of clock k
abbrev pub IsRead : ℕ → List Reading → Type 0
IsRead k readings = Any (λ r. r.clock ≡ k) readings

-- a reading of a log of so many hosts, rows and clocks
pub record IsReading (hosts rows clocks : ℕ) (r : Reading) : Type 0 where
  pub host : r.host < hosts
  pub place : r.place ≤ rows
  pub clock : r.clock < clocks
  pub error_low : pos 0 ≤ℤ r.error
  pub error_high : r.error ≤ℤ MAX_ERROR

-- the clocks are in the order in which they are first read: a reading of one comes after one of each before it
abbrev pub AreInTurn : List Reading → Type 0
AreInTurn readings = (i k : ℕ) (d : Reading) → i < length readings → k < (slice_index_or readings i d).clock → IsRead k (take i readings)

-- readings of a log of so many hosts, rows and clocks: their places do not fall, each clock is read, and they are first
-- read in their order
pub record AreReadings (hosts rows clocks : ℕ) (readings : List Reading) : Type 0 where
  pub each : All (IsReading hosts rows clocks) readings
  pub in_order : AllPairs (λ q r. q.place ≤ r.place) readings
  pub in_turn : AreInTurn readings
  pub read : (k : ℕ) → k < clocks → IsRead k readings

-- names of clocks: not too many, and no two of them alike
pub record AreClockNames (clocks : List (List ℕ)) : Type 0 where
  pub few : length clocks ≤ MAX_CLOCKS
  pub named : All (λ n. is_name n ≡ true) clocks
  pub apart : AllPairs (λ m n. n ≡ m → ⊥) clocks

-- an extra bound of a log of so many rows
pub record IsExtra (rows : ℕ) (x : Extra) : Type 0 where
  pub e : x.e < rows
  pub f : x.f < rows
  pub apart : x.e ≢ x.f
  pub bound : IsWithin MAX_EXTRA x.c

-- two rows that send one message
pub record SendSame (q r : Row) : Type 0 where
  pub message : List ℕ
  pub first : sent_by q.act ≡ Some message
  pub second : sent_by r.act ≡ Some message

-- some row sends the message
abbrev pub IsSent : List Row → List ℕ → Type 0
IsSent rows message = Any (λ q. sent_by q.act ≡ Some message) rows

-- rows of so many hosts: no message is sent twice, and each one that is received is sent
pub record AreRows (hosts : ℕ) (rows : List Row) : Type 0 where
  pub each : All (IsRow hosts) rows
  pub sent_once : AllPairs (λ q r. SendSame q r → ⊥) rows
  pub sent : All (λ r. IfSome (received_by r.act) (IsSent rows)) rows

-- a valid log
pub record IsLog (log : Logged) : Type 0 where
  pub some_hosts : 1 ≤ length log.hosts
  pub few_hosts : length log.hosts ≤ MAX_HOSTS
  pub some_rows : 1 ≤ length log.rows
  pub few_rows : length log.rows ≤ MAX_ROWS
  pub few_extras : length log.extras ≤ MAX_EXTRAS
  pub names : AllPairs (λ g h. h.name ≡ g.name → ⊥) log.hosts
  pub hosts : All IsHost log.hosts
  pub rows : AreRows (length log.hosts) log.rows
  pub resyncs : AreResyncs (length log.hosts) (length log.rows) log.resyncs
  pub clocks : AreClockNames log.clocks
  pub readings : AreReadings (length log.hosts) (length log.rows) (length log.clocks) log.readings
  pub extras : All (IsExtra (length log.rows)) log.extras

-- a log that a log file can state: no more extra bounds, and no greater skew, than a file may state
pub record IsPlain (log : Logged) : Type 0 where
  pub extras : length log.extras ≤ MAX_WRITTEN_EXTRAS
  pub skews : All (λ h. h.skew ≤ℤ MAX_WRITTEN_SKEW) log.hosts
  pub resyncs : All (λ r. r.skew ≤ℤ MAX_WRITTEN_SKEW) log.resyncs

-- the log with one extra bound more, at the end
abbrev pub with_extra : Logged → Extra → Logged
with_extra log x = record { hosts = log.hosts; rows = log.rows; resyncs = log.resyncs; clocks = log.clocks; readings = log.readings; extras = log.extras ++ x ∷ [] }

-- the host with a skew that is greater by s
abbrev pub widened_host : ℤ → Host → Host
widened_host s h = record { name = h.name; skew = h.skew +ℤ s; gap = h.gap; least = h.least; most = h.most }

-- the resync to a skew that is greater by s
abbrev pub widened_resync : ℤ → Resync → Resync
widened_resync s r = record { place = r.place; host = r.host; skew = r.skew +ℤ s; gap = r.gap }

-- s is at least 0, and each skew of the log's hosts and resyncs stays in its range when it grows by s
abbrev pub MayWiden : ℤ → Logged → Type 0
MayWiden s log = (pos 0 ≤ℤ s) × All (λ h. (h.skew +ℤ s) ≤ℤ MAX_SKEW) log.hosts × All (λ r. (r.skew +ℤ s) ≤ℤ MAX_SKEW) log.resyncs

-- the log with each skew greater by s
abbrev pub widened : ℤ → Logged → Logged
widened s log = record { hosts = map (widened_host s) log.hosts; rows = log.rows; resyncs = map (widened_resync s) log.resyncs; clocks = log.clocks; readings = log.readings; extras = log.extras }
