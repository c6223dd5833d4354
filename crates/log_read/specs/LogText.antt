-- The one text of a plain log.
use Rattle.std.specs.Prelude.{◌≡◌, ℕ, suc, ◌==◌, ◌&&◌, ◌||◌, not, Bool, List, [], ◌∷◌, ◌++◌, length, map, filter, codes, slice_get, Option, Some, None, is_some, unwrap_or, Ok, if◌then◌else◌}
use Rattle.std.specs.Option.{option_map_or}
use Rattle.std.specs.List.{flat_map, join_with_byte, list_any}
use Rattle.std.specs.Fmt.{decimal, signed_decimal}
use Rattle.mt_model.specs.declared.log.Act.{Act}
use Rattle.mt_model.specs.declared.log.Act.TheVariants.{Set, Clear, Send, Recv, Note, Pulse}
use Rattle.mt_model.specs.declared.log.Host.{Host}
use Rattle.mt_model.specs.declared.log.Row.{Row}
use Rattle.mt_model.specs.declared.resync.Resync.{Resync}
use Rattle.mt_model.specs.declared.reading.Reading.{Reading}
use Rattle.mt_model.specs.declared.log.Extra.{Extra}
use Rattle.mt_model.specs.declared.limits.TheConstants.{MIN_DELAY}
use Rattle.mt_model.specs.Log.{Logged, IsLog, IsPlain, is_pulse, name_in}
use Rattle.log_read.specs.declared.version.Version.{Version}
use Rattle.log_read.specs.declared.version.Version.TheVariants as version
use Rattle.log_read.specs.Records.{Record}
use Rattle.log_read.specs.LogOf.{log_of}

-- the byte between fields
abbrev pub comma : ℕ
comma = 44

-- the byte that ends a line
abbrev pub newline : ℕ
newline = 10

-- the word of an act
abbrev pub act_word : Act → List ℕ
act_word (Set name) = codes "set"
act_word (Clear name) = codes "clear"
act_word (Send name) = codes "send"
act_word (Recv name) = codes "recv"
act_word (Note name) = codes "note"
act_word (Pulse name) = codes "pulse"

-- the name of the host at a place
abbrev pub host_name : List Host → ℕ → List ℕ
host_name hosts place = option_map_or (λ (h : Host). h.name) (slice_get hosts place) []

-- a host has other delays than one without a latency
abbrev pub has_latency : Host → Bool
has_latency h = not (h.least == MIN_DELAY) || is_some h.most

-- the act of a row is a pulse
abbrev pub has_pulse : Row → Bool
has_pulse r = is_pulse r.act

-- the name of the clock at a place
abbrev pub clock_name : List (List ℕ) → ℕ → List ℕ
clock_name clocks place = unwrap_or (slice_get clocks place) []

-- the version that states a log: the third one where there is a reading or an extra bound, else the second one where there is a resync, a latency or a pulse
abbrev pub version_for : Logged → Version
version_for log =
    if not (length log.readings == 0) || not (length log.extras == 0) then version.Three
    else if (length log.resyncs == 0) && not (list_any has_latency log.hosts) && not (list_any has_pulse log.rows) then version.One
    else version.Two

-- the word of the version, which is `kind`, `skewlog2` or `skewlog3`, and the fields `host`, `time` and `name`
abbrev pub header : Version → Record
header version.One = codes "kind" ∷ codes "host" ∷ codes "time" ∷ codes "name" ∷ []
header version.Two = codes "skewlog2" ∷ codes "host" ∷ codes "time" ∷ codes "name" ∷ []
header version.Three = codes "skewlog3" ∷ codes "host" ∷ codes "time" ∷ codes "name" ∷ []

-- the word `host`, the host's name, its skew and its gap
abbrev pub host_fields : Host → Record
host_fields h = codes "host" ∷ h.name ∷ signed_decimal h.skew ∷ signed_decimal h.gap ∷ []

-- a greatest delay, or `inf` where there is none
abbrev pub most_text : Option ℕ → List ℕ
most_text None = codes "inf"
most_text (Some most) = decimal most

-- the word `latency`, the host's name, and the least and the greatest delay
abbrev pub latency_fields : Host → Record
latency_fields h = codes "latency" ∷ h.name ∷ decimal h.least ∷ most_text h.most ∷ []

-- the word `resync`, the name of its host, its skew and its gap
abbrev pub resync_fields : List Host → Resync → Record
resync_fields hosts r = codes "resync" ∷ host_name hosts r.host ∷ signed_decimal r.skew ∷ signed_decimal r.gap ∷ []

-- the word `clock`, the name of its host, its error and the name of its clock
abbrev pub reading_fields : List Host → List (List ℕ) → Reading → Record
reading_fields hosts clocks r = codes "clock" ∷ host_name hosts r.host ∷ signed_decimal r.error ∷ clock_name clocks r.clock ∷ []

-- the word `bound`, its two rows and its bound
abbrev pub bound_fields : Extra → Record
bound_fields x = codes "bound" ∷ decimal x.e ∷ decimal x.f ∷ signed_decimal x.c ∷ []

-- the word of a row's act, the name of its host, its local time and its act's name
abbrev pub row_fields : List Host → Row → Record
row_fields hosts r = act_word r.act ∷ host_name hosts r.host ∷ signed_decimal r.local ∷ name_in r.act ∷ []

-- the resyncs at a place, in order
abbrev pub resyncs_at : List Host → List Resync → ℕ → List Record
resyncs_at hosts resyncs place = map (resync_fields hosts) (filter (λ r. r.place == place) resyncs)

-- the readings at a place, in order
abbrev pub readings_at : List Host → List (List ℕ) → List Reading → ℕ → List Record
readings_at hosts clocks readings place = map (reading_fields hosts clocks) (filter (λ r. r.place == place) readings)

-- what stands before the row at a place, or last: the resyncs there and then the readings
abbrev pub marks_at : Logged → ℕ → List Record
marks_at log place = resyncs_at log.hosts log.resyncs place ++ readings_at log.hosts log.clocks log.readings place

-- rows from a place on, each after the resyncs and the readings at its place, and those behind them
abbrev pub rows_from : Logged → ℕ → List Row → List Record
rows_from log place [] = marks_at log place
rows_from log place (r ∷ rs) = marks_at log place ++ row_fields log.hosts r ∷ rows_from log (suc place) rs

-- the header, then each host, then the latency of each host that has one, then the rows, resyncs and readings, then the bounds
abbrev pub log_records : Logged → List Record
log_records log =
    header (version_for log) ∷ map host_fields log.hosts ++ map latency_fields (filter has_latency log.hosts) ++ rows_from log 0 log.rows ++ map bound_fields log.extras

-- fields with a comma between each two, and the end of the line
abbrev pub line_of : Record → List ℕ
line_of fields = join_with_byte comma fields ++ newline ∷ []

-- a line for each record
abbrev pub log_text : Logged → List ℕ
log_text log = flat_map line_of (log_records log)

-- the text of a valid plain log reads back as the log
abbrev pub TextsReadBack : Type 0
TextsReadBack = (log : Logged) → IsLog log → IsPlain log → log_of (log_text log) ≡ Ok log
