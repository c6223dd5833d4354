-- The log that a file is, or its first fault.
use Rattle.std.specs.Prelude.{ℕ, ◌+◌, ◌==◌, ◌&&◌, ◌||◌, not, nat_le, nat_lt, Bool, false, List, [], ◌∷◌, ◌++◌, length, Option, Some, None, is_none, option_map, Result, Ok, Err, if◌then◌else◌, bytes_eq, codes, position}
use Rattle.std.specs.List.{list_any}
use Rattle.std.specs.Option.{option_map_or}
use Rattle.csv.specs.Reading.{default_config, records, strip_bom}
use Rattle.mt_model.specs.declared.log.Host.{Host}
use Rattle.mt_model.specs.declared.log.Row.{Row}
use Rattle.mt_model.specs.declared.log.Extra.{Extra}
use Rattle.mt_model.specs.declared.limits.TheConstants.{MAX_HOSTS, MAX_ROWS, MAX_CLOCKS, MAX_WRITTEN_EXTRAS, MAX_WRITTEN_SKEW, MAX_GAP, MAX_LOCAL, MAX_ERROR, MAX_EXTRA}
use Rattle.mt_model.specs.Name.{is_name, is_reserved}
use Rattle.mt_model.specs.Log.{Logged}
use Rattle.mt_model.specs.Timing.{is_send_of}
use Rattle.log_read.specs.declared.fault.LogFault.{LogFault}
use Rattle.log_read.specs.declared.fault.LogFault.TheVariants as fault
use Rattle.log_read.specs.declared.kind.Kind.{Kind}
use Rattle.log_read.specs.declared.kind.Kind.TheVariants as kind
use Rattle.log_read.specs.declared.kind.EventKind.{EventKind}
use Rattle.log_read.specs.declared.kind.EventKind.TheVariants as event
use Rattle.log_read.specs.declared.latency.Latency.{Latency}
use Rattle.log_read.specs.declared.version.Version.{Version}
use Rattle.log_read.specs.declared.version.Version.TheVariants as version
use Rattle.decimal.specs.Numbers.{number_up_to, signed_up_to}
use Rattle.log_read.specs.Records.{Listing, Record, bound_in, bound_with, greatest_in, kind_of, latency_with, least_in, listed, log_from, place_of_clock, place_of_host, row_number}

-- this word and the fields `host`, `time`, `name`
abbrev pub is_header : List ℕ → Record → Bool
is_header word (a ∷ b ∷ c ∷ d ∷ []) = bytes_eq a word && bytes_eq b (codes "host") && bytes_eq c (codes "time") && bytes_eq d (codes "name")
is_header word _ = false

-- the version that a header tells by its first word
abbrev pub version_of : Record → Option Version
version_of header =
    if is_header (codes "kind") header then Some version.One
    else if is_header (codes "skewlog2") header then Some version.Two
    else if is_header (codes "skewlog3") header then Some version.Three
    else None

-- the kind of a record, where a file of the version may have it
abbrev pub known_in : Version → Option Kind → Option Kind
known_in version.One None = None
known_in version.One (Some kind.Host) = Some kind.Host
known_in version.One (Some (kind.Event event.Pulse)) = None
known_in version.One (Some (kind.Event e)) = Some (kind.Event e)
known_in version.One (Some kind.Resync) = None
known_in version.One (Some kind.Latency) = None
known_in version.One (Some kind.Clock) = None
known_in version.One (Some kind.Bound) = None
known_in version.Two None = None
known_in version.Two (Some kind.Clock) = None
known_in version.Two (Some kind.Bound) = None
known_in version.Two (Some k) = Some k
known_in version.Three k = k

-- whether a host of that name is among hosts
abbrev pub is_declared : List Host → List ℕ → Bool
is_declared hosts name = list_any (λ h. bytes_eq h.name name) hosts

-- whether a message is sent by rows
abbrev pub is_sent : List Row → List ℕ → Bool
is_sent rows message = list_any (is_send_of message) rows

-- the first test that a host record fails, after these hosts
abbrev pub host_fault : ℕ → List Host → List ℕ → List ℕ → List ℕ → Option LogFault
host_fault place hosts name skew gap =
    if not (is_name name) || is_reserved name then Some (fault.HostName place)
    else if is_declared hosts name then Some (fault.DuplicateHost place)
    else if nat_le MAX_HOSTS (length hosts) then Some (fault.TooManyHosts place)
    else if is_none (number_up_to MAX_WRITTEN_SKEW skew) || is_none (number_up_to MAX_GAP gap) then Some (fault.Number place)
    else None

-- whether an event sends a message that rows send already
abbrev pub sends_again : EventKind → List Row → List ℕ → Bool
sends_again event.Send rows message = is_sent rows message
sends_again event.Set rows name = false
sends_again event.Clear rows name = false
sends_again event.Recv rows name = false
sends_again event.Note rows name = false
sends_again event.Pulse rows name = false

-- the first test that an event record fails, after these hosts and rows
abbrev pub event_fault : ℕ → List Host → List Row → EventKind → List ℕ → List ℕ → List ℕ → Option LogFault
event_fault place hosts rows e host local name =
    if is_none (place_of_host hosts host) then Some (fault.UnknownHost place)
    else if is_none (signed_up_to MAX_LOCAL local) then Some (fault.Number place)
    else if not (is_name name) then Some (fault.Name place)
    else if sends_again e rows name then Some (fault.DoubleSend place)
    else if nat_le MAX_ROWS (length rows) then Some (fault.TooManyEvents place)
    else None

-- the first test that a resync record fails, after these hosts
abbrev pub resync_fault : ℕ → List Host → List ℕ → List ℕ → List ℕ → Option LogFault
resync_fault place hosts host skew gap =
    if is_none (place_of_host hosts host) then Some (fault.UnknownHost place)
    else if is_none (number_up_to MAX_WRITTEN_SKEW skew) || is_none (number_up_to MAX_GAP gap) then Some (fault.Number place)
    else None

-- whether a latency of the host of that name is among latencies
abbrev pub is_delayed : List Latency → List ℕ → Bool
is_delayed latencies host = list_any (λ l. bytes_eq l.host host) latencies

-- the greatest delay of a latency, where it has one, is below its least
abbrev pub is_empty : Latency → Bool
is_empty l = option_map_or (λ m. nat_lt m l.least) l.most false

-- the first test that a latency record fails, after these hosts and latencies
abbrev pub latency_fault : ℕ → List Host → List Latency → List ℕ → List ℕ → List ℕ → Option LogFault
latency_fault place hosts latencies host least most =
    if is_none (place_of_host hosts host) then Some (fault.UnknownHost place)
    else if is_delayed latencies host then Some (fault.DoubleLatency place)
    else if is_none (least_in least) || is_none (greatest_in most) then Some (fault.Number place)
    else if option_map_or is_empty (latency_with host least most) false then Some (fault.LatencyRange place)
    else None

-- the first test that a clock record fails, after these hosts and names of clocks
abbrev pub clock_fault : ℕ → List Host → List (List ℕ) → List ℕ → List ℕ → List ℕ → Option LogFault
clock_fault place hosts clocks host error name =
    if is_none (place_of_host hosts host) then Some (fault.UnknownHost place)
    else if is_none (number_up_to MAX_ERROR error) then Some (fault.Number place)
    else if not (is_name name) then Some (fault.Name place)
    else if is_none (place_of_clock clocks name) && nat_le MAX_CLOCKS (length clocks) then Some (fault.TooManyClocks place)
    else None

-- a bound is of one row and itself
abbrev pub is_of_one_row : Extra → Bool
is_of_one_row x = x.e == x.f

-- the first test that a bound record fails, after these bounds
abbrev pub bound_fault : ℕ → List Extra → List ℕ → List ℕ → List ℕ → Option LogFault
bound_fault place bounds later earlier most =
    if is_none (row_number later) || is_none (row_number earlier) || is_none (signed_up_to MAX_EXTRA most) then Some (fault.Number place)
    else if option_map_or is_of_one_row (bound_with later earlier most) false then Some (fault.SameRow place)
    else if nat_le MAX_WRITTEN_EXTRAS (length bounds) then Some (fault.TooManyBounds place)
    else None

-- the fault of a record of four fields, by its first field
abbrev pub fault_by : ℕ → Listing → Option Kind → List ℕ → List ℕ → List ℕ → Option LogFault
fault_by place before None host time name = Some (fault.Kind place)
fault_by place before (Some kind.Host) host time name = host_fault place before.hosts host time name
fault_by place before (Some (kind.Event e)) host time name = event_fault place before.hosts before.rows e host time name
fault_by place before (Some kind.Resync) host skew gap = resync_fault place before.hosts host skew gap
fault_by place before (Some kind.Latency) host least most = latency_fault place before.hosts before.latencies host least most
fault_by place before (Some kind.Clock) host error name = clock_fault place before.hosts before.clocks host error name
fault_by place before (Some kind.Bound) later earlier most = bound_fault place before.bounds later earlier most

-- the first test that the record at a place fails in a file of the version, after what was listed before it
abbrev pub fault_of : Version → ℕ → Listing → Record → Option LogFault
fault_of v place before (word ∷ host ∷ time ∷ name ∷ []) = fault_by place before (known_in v (kind_of word)) host time name
fault_of v place before _ = Some (fault.Width place)

-- the first of two faults
abbrev pub or_else : Option LogFault → Option LogFault → Option LogFault
or_else None second = second
or_else (Some first) second = Some first

-- the fault of the first faulty one of records that stand after the header and others
abbrev pub first_fault : Version → List Record → List Record → Option LogFault
first_fault v before [] = None
first_fault v before (r ∷ rs) = or_else (fault_of v (length before + 2) (listed before) r) (first_fault v (before ++ r ∷ []) rs)

-- a record of a kind receives a message that no row sends
abbrev pub is_unmatched_by : List Row → Option Kind → List ℕ → Bool
is_unmatched_by rows (Some (kind.Event event.Recv)) message = not (is_sent rows message)
is_unmatched_by rows _ message = false

-- whether a record receives a message that no row sends
abbrev pub is_unmatched : List Row → Record → Bool
is_unmatched rows (word ∷ host ∷ time ∷ name ∷ []) = is_unmatched_by rows (kind_of word) name
is_unmatched rows _ = false

-- the fault of the first receive under the header whose message is sent nowhere
abbrev pub first_unmatched : List Record → Option LogFault
first_unmatched records = option_map (λ n. fault.UnmatchedReceive (n + 2)) (position (is_unmatched (listed records).rows) records)

-- a bound names a row that so many rows lack
abbrev pub lacks_row : ℕ → Extra → Bool
lacks_row rows x = nat_le rows x.e || nat_le rows x.f

-- whether a record states a bound of a row that so many rows lack
abbrev pub names_no_row : ℕ → Record → Bool
names_no_row rows r = option_map_or (lacks_row rows) (bound_in r) false

-- the fault of the first bound under the header that names a row which the log doesn't have
abbrev pub first_without_row : List Record → Option LogFault
first_without_row records = option_map (λ n. fault.NoRow (n + 2)) (position (names_no_row (length (listed records).rows)) records)

-- no row is listed
abbrev pub no_event : Listing → Option LogFault
no_event l = if nat_le 1 (length l.rows) then None else Some fault.NoEvent

-- the fault where there is one, and else the log
abbrev pub unless : Option LogFault → Logged → Result Logged LogFault
unless None log = Ok log
unless (Some f) log = Err f

-- the log of the records under a header of the version, or its fault: that of the first faulty record, else of a receive, else that there is no row, else of a bound
abbrev pub log_under_header : Version → List Record → Result Logged LogFault
log_under_header v records =
    unless (or_else (first_fault v [] records) (or_else (first_unmatched records) (or_else (no_event (listed records)) (first_without_row records)))) (log_from (listed records))

-- the log of the records under a record that is a header of the version or none
abbrev pub log_under : Option Version → List Record → Result Logged LogFault
log_under None records = Err (fault.Header 1)
log_under (Some v) records = log_under_header v records

-- the log of a list of records, the first of them the header
abbrev pub log_of_records : List Record → Result Logged LogFault
log_of_records [] = Err (fault.Header 1)
log_of_records (header ∷ rest) = log_under (version_of header) rest

-- the log that a file's bytes are, or its fault
abbrev pub log_of : List ℕ → Result Logged LogFault
log_of bytes = log_of_records (records default_config (strip_bom bytes))
