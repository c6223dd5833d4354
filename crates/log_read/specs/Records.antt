-- The records of a log file, each a list of fields, and what one lists.
use Rattle.std.specs.Prelude.{ℕ, suc, ◌+◌, ◌^◌, nat_le, List, [], ◌∷◌, ◌++◌, length, map, find, Option, Some, None, is_some, option_map, option_and_then, option_to_list, unwrap_or, if◌then◌else◌, bytes_eq, codes, position}
use Rattle.std.specs.List.{filter_map}
use Rattle.mt_model.specs.declared.log.Host.{Host}
use Rattle.mt_model.specs.declared.log.Row.{Row}
use Rattle.mt_model.specs.declared.log.Act.{Act}
use Rattle.mt_model.specs.declared.log.Act.TheVariants as act
use Rattle.mt_model.specs.declared.resync.Resync.{Resync}
use Rattle.mt_model.specs.declared.reading.Reading.{Reading}
use Rattle.mt_model.specs.declared.log.Extra.{Extra}
use Rattle.mt_model.specs.declared.limits.TheConstants.{MAX_WRITTEN_SKEW, MAX_GAP, MAX_LOCAL, MAX_DELAY, MIN_DELAY, MAX_ERROR, MAX_EXTRA}
use Rattle.mt_model.specs.Log.{Logged}
use Rattle.log_read.specs.declared.kind.Kind.{Kind}
use Rattle.log_read.specs.declared.kind.Kind.TheVariants as kind
use Rattle.log_read.specs.declared.kind.EventKind.{EventKind}
use Rattle.log_read.specs.declared.kind.EventKind.TheVariants as event
use Rattle.log_read.specs.declared.latency.Latency.{Latency}
use Rattle.decimal.specs.Numbers.{number_below, number_up_to, signed_up_to}

-- the fields of one line
abbrev pub Record : Type 0
Record = List (List ℕ)

-- the kind that the first field names
abbrev pub kind_of : List ℕ → Option Kind
kind_of word =
    if bytes_eq word (codes "host") then Some kind.Host
    else if bytes_eq word (codes "set") then Some (kind.Event event.Set)
    else if bytes_eq word (codes "clear") then Some (kind.Event event.Clear)
    else if bytes_eq word (codes "send") then Some (kind.Event event.Send)
    else if bytes_eq word (codes "recv") then Some (kind.Event event.Recv)
    else if bytes_eq word (codes "note") then Some (kind.Event event.Note)
    else if bytes_eq word (codes "pulse") then Some (kind.Event event.Pulse)
    else if bytes_eq word (codes "resync") then Some kind.Resync
    else if bytes_eq word (codes "latency") then Some kind.Latency
    else if bytes_eq word (codes "clock") then Some kind.Clock
    else if bytes_eq word (codes "bound") then Some kind.Bound
    else None

-- what happened, by the kind and the name of an event record
abbrev pub act_of : EventKind → List ℕ → Act
act_of event.Set name = act.Set name
act_of event.Clear name = act.Clear name
act_of event.Send name = act.Send name
act_of event.Recv name = act.Recv name
act_of event.Note name = act.Note name
act_of event.Pulse name = act.Pulse name

-- the place of the host of that name among hosts
abbrev pub place_of_host : List Host → List ℕ → Option ℕ
place_of_host hosts name = position (λ h. bytes_eq h.name name) hosts

-- the host of a host record's fields
abbrev pub host_with : List ℕ → List ℕ → List ℕ → Option Host
host_with name skew gap =
    option_and_then (λ s. option_map (λ g. record { name = name; skew = s; gap = g; least = MIN_DELAY; most = None }) (number_up_to MAX_GAP gap)) (number_up_to MAX_WRITTEN_SKEW skew)

-- the row of an event record's fields, after these hosts were declared
abbrev pub row_with : List Host → EventKind → List ℕ → List ℕ → List ℕ → Option Row
row_with hosts e host local name =
    option_and_then (λ h. option_map (λ t. record { host = h; local = t; act = act_of e name }) (signed_up_to MAX_LOCAL local)) (place_of_host hosts host)

-- the resync of a resync record's fields, after these hosts were declared and so many rows were given
abbrev pub resync_with : List Host → ℕ → List ℕ → List ℕ → List ℕ → Option Resync
resync_with hosts rows host skew gap =
    option_and_then
    (λ h. option_and_then (λ s. option_map (λ g. record { place = rows; host = h; skew = s; gap = g }) (number_up_to MAX_GAP gap)) (number_up_to MAX_WRITTEN_SKEW skew))
    (place_of_host hosts host)

-- the delay that a field states, which is at most the greatest
abbrev pub delay_in : List ℕ → Option ℕ
delay_in field = number_below (suc MAX_DELAY) field

-- the least delay that a field states
abbrev pub least_in : List ℕ → Option ℕ
least_in field = option_and_then (λ n. if nat_le MIN_DELAY n then Some n else None) (delay_in field)

-- the greatest delay that a field states, which is none where the field is `inf`
abbrev pub greatest_in : List ℕ → Option (Option ℕ)
greatest_in field = if bytes_eq field (codes "inf") then Some None else option_map Some (delay_in field)

-- the latency of a latency record's fields
abbrev pub latency_with : List ℕ → List ℕ → List ℕ → Option Latency
latency_with host least most = option_and_then (λ l. option_map (λ m. record { host = host; least = l; most = m }) (greatest_in most)) (least_in least)

-- the place of the clock of that name among names of clocks
abbrev pub place_of_clock : List (List ℕ) → List ℕ → Option ℕ
place_of_clock clocks name = position (λ n. bytes_eq n name) clocks

-- the clock of a name, after these were named: the one of that name, or else the next one
abbrev pub clock_named : List (List ℕ) → List ℕ → ℕ
clock_named clocks name = unwrap_or (place_of_clock clocks name) (length clocks)

-- a name, where no clock before has it
abbrev pub new_clock : List (List ℕ) → List ℕ → Option (List ℕ)
new_clock clocks name = if is_some (place_of_clock clocks name) then None else Some name

-- the reading of a clock record's fields, after these hosts were declared, these clocks were named and so many rows were given
abbrev pub reading_with : List Host → List (List ℕ) → ℕ → List ℕ → List ℕ → List ℕ → Option Reading
reading_with hosts clocks rows host error name =
    option_and_then (λ h. option_map (λ e. record { place = rows; host = h; error = e; clock = clock_named clocks name }) (number_up_to MAX_ERROR error)) (place_of_host hosts host)

-- the number of a row that a field states
abbrev pub row_number : List ℕ → Option ℕ
row_number field = number_below (2 ^ 32) field

-- the bound of a bound record's fields: the first row comes at most so much after the second
abbrev pub bound_with : List ℕ → List ℕ → List ℕ → Option Extra
bound_with later earlier most = option_and_then (λ e. option_and_then (λ f. option_map (λ c. record { e = e; f = f; c = c }) (signed_up_to MAX_EXTRA most)) (row_number earlier)) (row_number later)

-- the host that a record of a kind declares
abbrev pub host_by : Option Kind → List ℕ → List ℕ → List ℕ → Option Host
host_by None name skew gap = None
host_by (Some kind.Host) name skew gap = host_with name skew gap
host_by (Some (kind.Event e)) name skew gap = None
host_by (Some kind.Resync) host skew gap = None
host_by (Some kind.Latency) host least most = None
host_by (Some kind.Clock) host error name = None
host_by (Some kind.Bound) later earlier most = None

-- the row that a record of a kind gives
abbrev pub row_by : List Host → Option Kind → List ℕ → List ℕ → List ℕ → Option Row
row_by hosts None host local name = None
row_by hosts (Some kind.Host) host local name = None
row_by hosts (Some (kind.Event e)) host local name = row_with hosts e host local name
row_by hosts (Some kind.Resync) host skew gap = None
row_by hosts (Some kind.Latency) host least most = None
row_by hosts (Some kind.Clock) host error name = None
row_by hosts (Some kind.Bound) later earlier most = None

-- the resync that a record of a kind gives
abbrev pub resync_by : List Host → ℕ → Option Kind → List ℕ → List ℕ → List ℕ → Option Resync
resync_by hosts rows None host skew gap = None
resync_by hosts rows (Some kind.Host) name skew gap = None
resync_by hosts rows (Some (kind.Event e)) host local name = None
resync_by hosts rows (Some kind.Resync) host skew gap = resync_with hosts rows host skew gap
resync_by hosts rows (Some kind.Latency) host least most = None
resync_by hosts rows (Some kind.Clock) host error name = None
resync_by hosts rows (Some kind.Bound) later earlier most = None

-- the latency that a record of a kind states
abbrev pub latency_by : Option Kind → List ℕ → List ℕ → List ℕ → Option Latency
latency_by None host least most = None
latency_by (Some kind.Host) name skew gap = None
latency_by (Some (kind.Event e)) host local name = None
latency_by (Some kind.Resync) host skew gap = None
latency_by (Some kind.Latency) host least most = latency_with host least most
latency_by (Some kind.Clock) host error name = None
latency_by (Some kind.Bound) later earlier most = None

-- the clock that a record of a kind names for the first time, after these were named
abbrev pub clock_by : List (List ℕ) → Option Kind → List ℕ → List ℕ → List ℕ → Option (List ℕ)
clock_by clocks None host error name = None
clock_by clocks (Some kind.Host) host skew gap = None
clock_by clocks (Some (kind.Event e)) host local name = None
clock_by clocks (Some kind.Resync) host skew gap = None
clock_by clocks (Some kind.Latency) host least most = None
clock_by clocks (Some kind.Clock) host error name = new_clock clocks name
clock_by clocks (Some kind.Bound) later earlier most = None

-- the reading that a record of a kind gives
abbrev pub reading_by : List Host → List (List ℕ) → ℕ → Option Kind → List ℕ → List ℕ → List ℕ → Option Reading
reading_by hosts clocks rows None host error name = None
reading_by hosts clocks rows (Some kind.Host) host skew gap = None
reading_by hosts clocks rows (Some (kind.Event e)) host local name = None
reading_by hosts clocks rows (Some kind.Resync) host skew gap = None
reading_by hosts clocks rows (Some kind.Latency) host least most = None
reading_by hosts clocks rows (Some kind.Clock) host error name = reading_with hosts clocks rows host error name
reading_by hosts clocks rows (Some kind.Bound) later earlier most = None

-- the bound that a record of a kind states
abbrev pub bound_by : Option Kind → List ℕ → List ℕ → List ℕ → Option Extra
bound_by None later earlier most = None
bound_by (Some kind.Host) host skew gap = None
bound_by (Some (kind.Event e)) host local name = None
bound_by (Some kind.Resync) host skew gap = None
bound_by (Some kind.Latency) host least most = None
bound_by (Some kind.Clock) host error name = None
bound_by (Some kind.Bound) later earlier most = bound_with later earlier most

-- the host that a record declares
abbrev pub host_in : Record → Option Host
host_in (word ∷ name ∷ skew ∷ gap ∷ []) = host_by (kind_of word) name skew gap
host_in _ = None

-- the row that a record gives, after these hosts were declared
abbrev pub row_in : List Host → Record → Option Row
row_in hosts (word ∷ host ∷ local ∷ name ∷ []) = row_by hosts (kind_of word) host local name
row_in hosts _ = None

-- the resync that a record gives, after these hosts were declared and so many rows were given
abbrev pub resync_in : List Host → ℕ → Record → Option Resync
resync_in hosts rows (word ∷ host ∷ skew ∷ gap ∷ []) = resync_by hosts rows (kind_of word) host skew gap
resync_in hosts rows _ = None

-- the latency that a record states
abbrev pub latency_in : Record → Option Latency
latency_in (word ∷ host ∷ least ∷ most ∷ []) = latency_by (kind_of word) host least most
latency_in _ = None

-- the clock that a record names for the first time, after these were named
abbrev pub clock_in : List (List ℕ) → Record → Option (List ℕ)
clock_in clocks (word ∷ host ∷ error ∷ name ∷ []) = clock_by clocks (kind_of word) host error name
clock_in clocks _ = None

-- the reading that a record gives, after these hosts were declared, these clocks were named and so many rows were given
abbrev pub reading_in : List Host → List (List ℕ) → ℕ → Record → Option Reading
reading_in hosts clocks rows (word ∷ host ∷ error ∷ name ∷ []) = reading_by hosts clocks rows (kind_of word) host error name
reading_in hosts clocks rows _ = None

-- the bound that a record states
abbrev pub bound_in : Record → Option Extra
bound_in (word ∷ later ∷ earlier ∷ most ∷ []) = bound_by (kind_of word) later earlier most
bound_in _ = None

-- the hosts that records declare, in order
abbrev pub hosts_in : List Record → List Host
hosts_in records = filter_map host_in records

-- the latencies that records state, in order
abbrev pub latencies_in : List Record → List Latency
latencies_in records = filter_map latency_in records

-- the bounds that records state, in order
abbrev pub bounds_in : List Record → List Extra
bounds_in records = filter_map bound_in records

-- the names of clocks in records, in the order in which they are first named, after these
abbrev pub clocks_after : List (List ℕ) → List Record → List (List ℕ)
clocks_after clocks [] = []
clocks_after clocks (r ∷ rs) = option_to_list (clock_in clocks r) ++ clocks_after (clocks ++ option_to_list (clock_in clocks r)) rs

-- the rows that records give, in order, each of a host declared before it
abbrev pub rows_after : List Host → List Record → List Row
rows_after hosts [] = []
rows_after hosts (r ∷ rs) = option_to_list (row_in hosts r) ++ rows_after (hosts ++ option_to_list (host_in r)) rs

-- the resyncs that records give, in order, each of a host declared before it and at the number of rows before it
abbrev pub resyncs_after : List Host → ℕ → List Record → List Resync
resyncs_after hosts rows [] = []
resyncs_after hosts rows (r ∷ rs) =
    option_to_list (resync_in hosts rows r) ++ resyncs_after (hosts ++ option_to_list (host_in r)) (rows + length (option_to_list (row_in hosts r))) rs

-- the readings that records give, in order, each of a host declared before it, of a clock named before it or by it, and at the number of rows before it
abbrev pub readings_after : List Host → List (List ℕ) → ℕ → List Record → List Reading
readings_after hosts clocks rows [] = []
readings_after hosts clocks rows (r ∷ rs) =
    option_to_list (reading_in hosts clocks rows r)
    ++ readings_after (hosts ++ option_to_list (host_in r)) (clocks ++ option_to_list (clock_in clocks r)) (rows + length (option_to_list (row_in hosts r))) rs

-- what records list: hosts, rows, resyncs, latencies, names of clocks, readings of them and bounds, each in order
pub record Listing : Type 0 where
  pub hosts : List Host
  pub rows : List Row
  pub resyncs : List Resync
  pub latencies : List Latency
  pub clocks : List (List ℕ)
  pub readings : List Reading
  pub bounds : List Extra

-- what records list
abbrev pub listed : List Record → Listing
listed records = record {
  hosts = hosts_in records;
  rows = rows_after [] records;
  resyncs = resyncs_after [] 0 records;
  latencies = latencies_in records;
  clocks = clocks_after [] records;
  readings = readings_after [] [] 0 records;
  bounds = bounds_in records;
}

-- the latency that is stated of the host of a name
abbrev pub latency_of : List Latency → List ℕ → Option Latency
latency_of latencies name = find (λ l. bytes_eq l.host name) latencies

-- the host with these delays
abbrev pub with_delays : Host → ℕ → Option ℕ → Host
with_delays h least most = record { name = h.name; skew = h.skew; gap = h.gap; least = least; most = most }

-- the host with the latency that is stated of it, if any
abbrev pub delayed_by : Option Latency → Host → Host
delayed_by None h = h
delayed_by (Some l) h = with_delays h l.least l.most

-- the host with the latency that these state of it
abbrev pub delayed : List Latency → Host → Host
delayed latencies h = delayed_by (latency_of latencies h.name) h

-- the log that is listed: its hosts have the latencies that are stated of them
abbrev pub log_from : Listing → Logged
log_from l = record { hosts = map (delayed l.latencies) l.hosts; rows = l.rows; resyncs = l.resyncs; clocks = l.clocks; readings = l.readings; extras = l.bounds }
