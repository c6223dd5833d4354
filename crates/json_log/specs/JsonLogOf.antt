-- The log that a JSON file is, or its fault.
use Rattle.std.specs.Prelude.{ℕ, Bool, true, false, ◌||◌, List, [], ◌∷◌, ◌++◌, Option, Some, None, Result, Ok, Err, option_map, option_and_then, if◌then◌else◌}
use Rattle.std.specs.Option.{ok_or, option_map_or}
use Rattle.std.specs.Str.{is_utf8}
use Rattle.serde_json.specs.Data.{Data, Items, item, no_items}
use Rattle.serde_json.specs.Read.{read}
use Rattle.mt_model.specs.Log.{Logged}
use Rattle.log_read.specs.declared.fault.LogFault.{LogFault}
use Rattle.log_read.specs.declared.version.Version.{Version}
use Rattle.log_read.specs.declared.version.Version.TheVariants as version
use Rattle.log_read.specs.LogOf.{log_of_records}
use Rattle.log_read.specs.LogText.{header}
use Rattle.log_read.specs.Records.{Record}
use Rattle.json_log.specs.declared.fault.JsonFault.{JsonFault}
use Rattle.json_log.specs.declared.fault.JsonFault.TheVariants as fault
use Rattle.json_log.specs.declared.key.Key.{Key}
use Rattle.json_log.specs.declared.key.Key.TheVariants as key
use Rattle.json_log.specs.Entries.{event_records, host_records, is_of_three}
use Rattle.json_log.specs.Look.{has_exactly, items_at}

-- the one value that bytes are, read as UTF-8 by `serde_json`
abbrev pub value_of : List ℕ → Option Data
value_of bytes = if is_utf8 bytes then read bytes else None

-- the records of entries, in their order, where each has the shape
abbrev pub records_in : (Data → Option (List Record)) → Items → Option (List Record)
records_in of no_items = Some []
records_in of (item d ds) = option_and_then (λ rs. option_map (λ more. rs ++ more) (records_in of ds)) (of d)

-- the records of the entries of the array at a key
abbrev pub records_at : (Data → Option (List Record)) → Key → Data → Option (List Record)
records_at of k d = option_and_then (records_in of) (items_at k d)

-- whether one of some items passes a test
abbrev pub any_in : (Data → Bool) → Items → Bool
any_in passes no_items = false
any_in passes (item d ds) = passes d || any_in passes ds

-- the version of records, by whether they need the third one
abbrev pub version_if : Bool → Version
version_if true = version.Three
version_if false = version.Two

-- the version of the records of a value: the third one where some event is of a kind that only it has
abbrev pub version_in : Data → Version
version_in d = version_if (option_map_or (any_in is_of_three) (items_at key.Events d) false)

-- the records of a value with exactly the keys `hosts` and `events`: the header, those of the hosts, and those of the events
abbrev pub records_of : Data → Option (List Record)
records_of d =
    if has_exactly (key.Hosts ∷ key.Events ∷ []) d
    then option_and_then (λ hosts. option_map (λ events. header (version_in d) ∷ hosts ++ events) (records_at event_records key.Events d)) (records_at host_records key.Hosts d)
    else None

-- the records of the value that was read, if any
abbrev pub records_or_fault : Option Data → Result (List Record) JsonFault
records_or_fault None = Err fault.Syntax
records_or_fault (Some d) = ok_or (records_of d) fault.Shape

-- the records that the bytes of a JSON file stand for, or why there are none
abbrev pub json_records : List ℕ → Result (List Record) JsonFault
json_records bytes = records_or_fault (value_of bytes)

-- the log of records, or their fault
abbrev pub log_or_fault : Result Logged LogFault → Result Logged JsonFault
log_or_fault (Ok log) = Ok log
log_or_fault (Err f) = Err (fault.Log f)

-- the log of the records that were found, if any
abbrev pub log_of_found : Result (List Record) JsonFault → Result Logged JsonFault
log_of_found (Ok records) = log_or_fault (log_of_records records)
log_of_found (Err f) = Err f

-- the log that the bytes of a JSON file are, or their fault
abbrev pub json_log_of : List ℕ → Result Logged JsonFault
json_log_of bytes = log_of_found (json_records bytes)
