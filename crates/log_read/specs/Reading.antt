-- A log that is read record by record.
use Rattle.std.specs.Prelude.{◌≡◌, ◌≢◌, ◌⊎◌, ◌≤◌, ◌++◌, length, ℕ, List, All, AllPairs, IfSome, Option, Some, None, option_map, option_to_list, Result, Ok, Err, MatchResult}
use Rattle.mt_model.specs.declared.limits.TheConstants.{MAX_DELAY, MAX_EXTRA, MAX_HOSTS, MAX_ROWS, MAX_WRITTEN_EXTRAS, MIN_DELAY}
use Rattle.mt_model.specs.declared.log.Extra.{Extra}
use Rattle.mt_model.specs.declared.log.Host.{Host}
use Rattle.mt_model.specs.Log.{AreClockNames, AreReadings, AreResyncs, IsHost, IsRow, IsWithin, SendSame}
use Rattle.log_read.specs.declared.clock.ClockEntry.{ClockEntry}
use Rattle.log_read.specs.declared.latency.Latency.{Latency}
use Rattle.log_read.specs.declared.fault.LogFault.{LogFault}
use Rattle.log_read.specs.declared.fault.LogFault.TheVariants.{Memory}
use Rattle.log_read.specs.declared.columns.Columns.{Columns}
use Rattle.log_read.specs.declared.kind.Kind.{Kind}
use Rattle.log_read.specs.LogOf.{fault_by}
use Rattle.log_read.specs.Records.{Listing, Record, bound_by, bound_in, clock_by, clock_in, host_by, host_in, latency_by, latency_in, new_clock, reading_by, reading_in, reading_with, resync_by, resync_in, row_by, row_in}

-- delays in their range, of which the greatest is not below the least
pub record IsLatency (l : Latency) : Type 0 where
  pub least_low : MIN_DELAY ≤ l.least
  pub least_high : l.least ≤ MAX_DELAY
  pub most_low : IfSome l.most (λ most. l.least ≤ most)
  pub most_high : IfSome l.most (λ most. most ≤ MAX_DELAY)

-- an extra bound whose rows may still come
pub record IsBound (x : Extra) : Type 0 where
  pub apart : x.e ≢ x.f
  pub bound : IsWithin MAX_EXTRA x.c

-- what a valid log may begin with: receives may still lack their sends, and bounds their rows
pub record IsBegun (l : Listing) : Type 0 where
  pub few_hosts : length l.hosts ≤ MAX_HOSTS
  pub few_rows : length l.rows ≤ MAX_ROWS
  pub names : AllPairs (λ g h. h.name ≡ g.name → ⊥) l.hosts
  pub hosts : All IsHost l.hosts
  pub rows : All (IsRow (length l.hosts)) l.rows
  pub sent_once : AllPairs (λ q r. SendSame q r → ⊥) l.rows
  pub resyncs : AreResyncs (length l.hosts) (length l.rows) l.resyncs
  pub latencies : All IsLatency l.latencies
  pub clocks : AreClockNames l.clocks
  pub readings : AreReadings (length l.hosts) (length l.rows) (length l.clocks) l.readings
  pub few_bounds : length l.bounds ≤ MAX_WRITTEN_EXTRAS
  pub bounds : All IsBound l.bounds

-- what a clock record's fields give, after these hosts, names of clocks and so many rows: a reading, and the name of its clock where it is a new one
abbrev pub clock_entry_with : List Host → List (List ℕ) → ℕ → List ℕ → List ℕ → List ℕ → Option ClockEntry
clock_entry_with hosts clocks rows host error name = option_map (λ r. record { reading = r; named = new_clock clocks name }) (reading_with hosts clocks rows host error name)

-- a call answered what is due, or want of memory
abbrev pub Answers : {X : Type 0} → Result X LogFault → Result X LogFault → Type 0
Answers result due = MatchResult result (λ x. due ≡ Ok x) (λ f. (f ≡ Memory) ⊎ (due ≡ Err f))

-- a call answered what is listed where there is no fault, and else the fault, or want of memory
abbrev pub Enters : {X : Type 0} → Result X LogFault → Option LogFault → Option X → Type 0
Enters result fault listed = MatchResult result (λ x. (fault ≡ None) × (listed ≡ Some x)) (λ f. (f ≡ Memory) ⊎ (fault ≡ Some f))

-- the same, by the fault and by what is listed of a record's place and its columns
abbrev pub EntersBy : {X : Type 0} → Result X LogFault → Columns → (ℕ → List ℕ → List ℕ → List ℕ → Option LogFault) → (List ℕ → List ℕ → List ℕ → Option X) → Type 0
EntersBy result c fault listed = Enters result (fault c.place c.host.now c.time.now c.name.now) (listed c.host.now c.time.now c.name.now)

-- what was listed, and what a record of a kind lists after it by its columns
abbrev pub with_columns : Listing → Option Kind → List ℕ → List ℕ → List ℕ → Listing
with_columns l k host time name = record {
  hosts = l.hosts ++ option_to_list (host_by k host time name);
  rows = l.rows ++ option_to_list (row_by l.hosts k host time name);
  resyncs = l.resyncs ++ option_to_list (resync_by l.hosts (length l.rows) k host time name);
  latencies = l.latencies ++ option_to_list (latency_by k host time name);
  clocks = l.clocks ++ option_to_list (clock_by l.clocks k host time name);
  readings = l.readings ++ option_to_list (reading_by l.hosts l.clocks (length l.rows) k host time name);
  bounds = l.bounds ++ option_to_list (bound_by k host time name);
}

-- what was listed, and what a record lists after it
abbrev pub with_record : Listing → Record → Listing
with_record l r = record {
  hosts = l.hosts ++ option_to_list (host_in r);
  rows = l.rows ++ option_to_list (row_in l.hosts r);
  resyncs = l.resyncs ++ option_to_list (resync_in l.hosts (length l.rows) r);
  latencies = l.latencies ++ option_to_list (latency_in r);
  clocks = l.clocks ++ option_to_list (clock_in l.clocks r);
  readings = l.readings ++ option_to_list (reading_in l.hosts l.clocks (length l.rows) r);
  bounds = l.bounds ++ option_to_list (bound_in r);
}

-- a call made of what was listed what is due, where there is no fault, and else answered the fault, or want of memory
abbrev pub Adds : Result (Unit {0}) LogFault → Option LogFault → Listing → Listing → Type 0
Adds result fault now due = MatchResult result (λ _. (fault ≡ None) × (now ≡ due)) (λ f. (f ≡ Memory) ⊎ (fault ≡ Some f))

-- a call took a record of a kind in, or answered its fault, or want of memory
abbrev pub TakesIn : Result (Unit {0}) LogFault → Option Kind → Columns → Listing → Listing → Type 0
TakesIn result k c before now = Adds result (fault_by c.place before k c.host.now c.time.now c.name.now) now (with_columns before k c.host.now c.time.now c.name.now)
