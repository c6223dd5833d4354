-- The records that an entry of a log in JSON stands for.
use Rattle.std.specs.Prelude.{ℕ, ℤ, Bool, false, List, [], ◌∷◌, ◌||◌, bytes_eq, codes, Option, Some, None, is_some, option_map, option_and_then, if◌then◌else◌}
use Rattle.std.specs.Option.{option_map_or}
use Rattle.std.specs.Fmt.{signed_decimal}
use Rattle.serde_json.specs.Data.{Data, Items, item, no_items}
use Rattle.serde_json.specs.Find.{as_null}
use Rattle.log_read.specs.Records.{Record}
use Rattle.json_log.specs.declared.key.Key.{Key}
use Rattle.json_log.specs.declared.key.Key.TheVariants as key
use Rattle.json_log.specs.Look.{has_exactly, items_at, text_at, whole, whole_at}

-- a record of a word, a name, and a skew and a gap in decimal
abbrev pub span_fields : List ℕ → List ℕ → ℤ → ℤ → Record
span_fields word name skew gap = word ∷ name ∷ signed_decimal skew ∷ signed_decimal gap ∷ []

-- the record of a word that an object gives with the name at a key, its skew and its gap
abbrev pub span_record : List ℕ → Key → Data → Option Record
span_record word named d = option_and_then (λ name. option_and_then (λ skew. option_map (span_fields word name skew) (whole_at key.Gap d)) (whole_at key.Skew d)) (text_at named d)

-- the greatest delay of a latency: a whole number in decimal, and `inf` for null
abbrev pub most_of : Data → Option (List ℕ)
most_of d = if is_some (as_null d) then Some (codes "inf") else option_map signed_decimal (whole d)

-- a least and a greatest delay, as fields: those of an array of two values
abbrev pub delays_of : Items → Option (List ℕ × List ℕ)
delays_of (item least (item most no_items)) = option_and_then (λ l. option_map (λ m. (signed_decimal l, m)) (most_of most)) (whole least)
delays_of items = None

-- the latency record of a host
abbrev pub latency_record : Data → Option Record
latency_record d = option_and_then (λ name. option_map (λ delays. codes "latency" ∷ name ∷ delays.0 ∷ delays.1 ∷ []) (option_and_then delays_of (items_at key.Latency d))) (text_at key.Name d)

-- the keys of a host without a latency, of one with a latency, of a resync, of a reading of a clock, of a bound and of any other event
abbrev pub host_keys : List Key
host_keys = key.Name ∷ key.Skew ∷ key.Gap ∷ []

abbrev pub delayed_host_keys : List Key
delayed_host_keys = key.Name ∷ key.Skew ∷ key.Gap ∷ key.Latency ∷ []

abbrev pub resync_keys : List Key
resync_keys = key.Kind ∷ key.Host ∷ key.Skew ∷ key.Gap ∷ []

abbrev pub reading_keys : List Key
reading_keys = key.Kind ∷ key.Host ∷ key.Clock ∷ key.Error ∷ []

abbrev pub bound_keys : List Key
bound_keys = key.Kind ∷ key.Later ∷ key.Earlier ∷ key.Most ∷ []

abbrev pub event_keys : List Key
event_keys = key.Kind ∷ key.Host ∷ key.Time ∷ key.Name ∷ []

-- one record
abbrev pub alone : Option Record → Option (List Record)
alone first = option_map (λ r. r ∷ []) first

-- two records, one after the other
abbrev pub in_turn : Option Record → Option Record → Option (List Record)
in_turn first second = option_and_then (λ r. option_map (λ s. r ∷ s ∷ []) second) first

-- the records of an entry of `hosts`: its host record, and its latency record where it has one
abbrev pub host_records : Data → Option (List Record)
host_records d =
    if has_exactly host_keys d then alone (span_record (codes "host") key.Name d)
    else if has_exactly delayed_host_keys d then in_turn (span_record (codes "host") key.Name d) (latency_record d)
    else None

-- the record of a row
abbrev pub row_record : List ℕ → Data → Option Record
row_record kind d = option_and_then (λ host. option_and_then (λ time. option_map (λ name. kind ∷ host ∷ signed_decimal time ∷ name ∷ []) (text_at key.Name d)) (whole_at key.Time d)) (text_at key.Host d)

-- the record of a reading of a clock
abbrev pub reading_record : List ℕ → Data → Option Record
reading_record kind d =
    option_and_then (λ host. option_and_then (λ error. option_map (λ clock. kind ∷ host ∷ signed_decimal error ∷ clock ∷ []) (text_at key.Clock d)) (whole_at key.Error d)) (text_at key.Host d)

-- the record of a bound
abbrev pub bound_record : List ℕ → Data → Option Record
bound_record kind d =
    option_and_then
    (λ later. option_and_then (λ earlier. option_map (λ most. kind ∷ signed_decimal later ∷ signed_decimal earlier ∷ signed_decimal most ∷ []) (whole_at key.Most d)) (whole_at key.Earlier d))
    (whole_at key.Later d)

-- the record of an event of a kind: no event is of the kinds `host` and `latency`
abbrev pub record_of_kind : Data → List ℕ → Option Record
record_of_kind d kind =
    if bytes_eq kind (codes "resync") then (if has_exactly resync_keys d then span_record kind key.Host d else None)
    else if bytes_eq kind (codes "clock") then (if has_exactly reading_keys d then reading_record kind d else None)
    else if bytes_eq kind (codes "bound") then (if has_exactly bound_keys d then bound_record kind d else None)
    else if bytes_eq kind (codes "host") || bytes_eq kind (codes "latency") then None
    else if has_exactly event_keys d then row_record kind d
    else None

-- the records of an entry of `events`: its one record
abbrev pub event_records : Data → Option (List Record)
event_records d = alone (option_and_then (record_of_kind d) (text_at key.Kind d))

-- an event is of a kind that only version 3 of log files has
abbrev pub is_of_three : Data → Bool
is_of_three d = option_map_or (λ kind. bytes_eq kind (codes "clock") || bytes_eq kind (codes "bound")) (text_at key.Kind d) false
