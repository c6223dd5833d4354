-- The state of a proposition at an instant.
use Rattle.std.specs.Prelude.{ℕ, ◌==◌, ◌&&◌, ◌||◌, List, length, Bool, true, false, Option, Some, None, is_none, if◌then◌else◌, option_map, option_and_then, find, filter, position, reverse, slice_get, bytes_eq, ℤ, int_le}
use Rattle.std.specs.Option.{option_map_or}
use Rattle.std.specs.List.{filter_map, list_any, position_from, range_with_len}
use Rattle.std.specs.Ordering.{int_eq}
use Rattle.mt_model.specs.declared.log.Act.{Act}
use Rattle.mt_model.specs.declared.log.Act.TheVariants.{Set, Clear, Send, Recv, Note, Pulse}
use Rattle.mt_model.specs.Form.{Form, propositions_of}
use Rattle.mt_model.specs.Log.{Logged}
use Rattle.mt_model.specs.Timing.{host_of, time_of}

-- whether an act sets the proposition or clears it, where it does one of them
abbrev pub effect_of : List ℕ → Act → Option Bool
effect_of name (Set n) = if bytes_eq n name then Some true else None
effect_of name (Clear n) = if bytes_eq n name then Some false else None
effect_of name (Send m) = None
effect_of name (Recv m) = None
effect_of name (Note n) = None
effect_of name (Pulse n) = None

-- whether an act pulses the proposition
abbrev pub is_pulse_of : List ℕ → Act → Bool
is_pulse_of name (Pulse n) = bytes_eq n name
is_pulse_of name (Set n) = false
is_pulse_of name (Clear n) = false
is_pulse_of name (Send m) = false
is_pulse_of name (Recv m) = false
is_pulse_of name (Note n) = false

-- a row that changes a proposition, and whether it sets it
pub record Change : Type 0 where
  pub row : ℕ
  pub sets : Bool

-- what row e is as a change of a host's proposition
abbrev pub change_at : Logged → ℕ → List ℕ → ℕ → Option Change
change_at log host name e =
    if host_of log e == host
    then option_map (λ sets. record { row = e; sets = sets }) (option_and_then (λ r. effect_of name r.act) (slice_get log.rows e))
    else None

-- the changes of a host's proposition, in the order of the log
abbrev pub changes_of : Logged → ℕ → List ℕ → List Change
changes_of log host name = filter_map (change_at log host name) (range_with_len 0 (length log.rows))

-- the last change, in the order of the log, of those whose true time is at most an instant
abbrev pub last_change : Logged → List ℤ → ℤ → ℕ → List ℕ → Option Change
last_change log t instant host name = find (λ c. int_le (time_of t c.row) instant) (reverse (changes_of log host name))

-- whether row e pulses a host's proposition
abbrev pub is_pulse_at : Logged → ℕ → List ℕ → ℕ → Bool
is_pulse_at log host name e = host_of log e == host && option_map_or (λ r. is_pulse_of name r.act) (slice_get log.rows e) false

-- the rows that pulse a host's proposition, in the order of the log
abbrev pub pulses_of : Logged → ℕ → List ℕ → List ℕ
pulses_of log host name = filter (is_pulse_at log host name) (range_with_len 0 (length log.rows))

-- whether one of them has just this instant as its true time
abbrev pub is_pulsed : Logged → List ℤ → ℤ → ℕ → List ℕ → Bool
is_pulsed log t instant host name = list_any (λ e. int_eq (time_of t e) instant) (pulses_of log host name)

-- the state of a host's proposition at an instant: true where a pulse has this instant; else where there is a last change up to it, and that one sets the proposition
abbrev pub state : Logged → List ℤ → ℤ → ℕ → List ℕ → Bool
state log t instant host name = is_pulsed log t instant host name || option_map_or (λ c. c.sets) (last_change log t instant host name) false

-- the place of the host of a name among the hosts
abbrev pub host_named : Logged → List ℕ → Option ℕ
host_named log name = position (λ h. bytes_eq h.name name) log.hosts

-- the state of a proposition whose host is given by its name: false where the log has no such host
abbrev pub state_named : Logged → List ℤ → ℤ → List ℕ → List ℕ → Bool
state_named log t instant host name = option_map_or (λ h. state log t instant h name) (host_named log host) false

-- the number, from left to right, of the first proposition of a formula whose host is not in the log, where they are counted from a number on
abbrev pub unknown_from : Logged → ℕ → Form → Option ℕ
unknown_from log number f = position_from (λ p. is_none (host_named log p.host)) number (propositions_of f)

-- the same, counted from 0
abbrev pub unknown_host : Logged → Form → Option ℕ
unknown_host log f = unknown_from log 0 f
