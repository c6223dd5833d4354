-- The records of a log's text list its hosts and rows.
use Rattle.std.proofs.Common.{◌≡◌, ◌∙◌, sym, ap, refl, arith, ℕ, zero, suc, ◌<◌, true, List, [], ◌∷◌, ◌++◌, length, get_or, map, Some, None, ◌≤ℤ◌}
use Rattle.std.specs.Prelude.{AllPairs, bytes_eq}
use Rattle.std.proofs.lemmas.Bool.{false_from_ne_true}
use Rattle.std.proofs.lemmas.Int.{ints}
use Rattle.std.proofs.lemmas.List.{get_or-map, length-map}
use Rattle.std.proofs.lemmas.Option.{slice_get-get_or}
use Rattle.std.proofs.lemmas.Slice.Eq.{bytes_eq-Decides}
use Rattle.mt_model.specs.declared.log.Act.{Act}
use Rattle.mt_model.specs.declared.log.Act.TheVariants as act
use Rattle.mt_model.specs.declared.log.Host.{Host}
use Rattle.mt_model.specs.declared.log.Row.{Row}
use Rattle.mt_model.specs.declared.limits.TheConstants.{MAX_WRITTEN_SKEW, MAX_GAP, MAX_LOCAL, MIN_DELAY}
use Rattle.mt_model.specs.Log.{IsHost, IsWithin, name_in}
use Rattle.mt_model.specs.Name.{is_name}
use Rattle.log_read.specs.declared.kind.EventKind.{EventKind}
use Rattle.log_read.specs.declared.kind.EventKind.TheVariants as event
use Rattle.log_read.specs.declared.kind.Kind.TheVariants as kind
use Rattle.log_read.specs.Records.{act_of, host_in, kind_of, place_of_host, row_in, with_delays}
use Rattle.log_read.specs.LogText.{act_word, host_fields, host_name, row_fields}
use Rattle.log_read.proofs.Middles.{position-found}
use Rattle.decimal.proofs.Printed.{number-printed, signed-printed}

-- the kind of an event in which an act is told
abbrev pub kind_in : Act → EventKind
kind_in (act.Set name) = event.Set
kind_in (act.Clear name) = event.Clear
kind_in (act.Send name) = event.Send
kind_in (act.Recv name) = event.Recv
kind_in (act.Note name) = event.Note
kind_in (act.Pulse name) = event.Pulse

-- the word of an act is of that kind
pub kind_of-word : (a : Act) → kind_of (act_word a) ≡ Some (kind.Event (kind_in a))
kind_of-word (act.Set name) = refl
kind_of-word (act.Clear name) = refl
kind_of-word (act.Send name) = refl
kind_of-word (act.Recv name) = refl
kind_of-word (act.Note name) = refl
kind_of-word (act.Pulse name) = refl

pub act_of-kind : (a : Act) → act_of (kind_in a) (name_in a) ≡ a
act_of-kind (act.Set name) = refl
act_of-kind (act.Clear name) = refl
act_of-kind (act.Send name) = refl
act_of-kind (act.Recv name) = refl
act_of-kind (act.Note name) = refl
act_of-kind (act.Pulse name) = refl

-- a host that a text can state
pub record IsWritable (h : Host) : Type 0 where
  pub valid : IsHost h
  pub skew : h.skew ≤ℤ MAX_WRITTEN_SKEW
  pub name : is_name h.name ≡ true

-- a host before its latency is stated
abbrev pub bare : Host → Host
bare h = with_delays h MIN_DELAY None

-- the record of a host declares it
pub host_in-fields : (h : Host) → IsWritable h → host_in (host_fields h) ≡ Some (bare h)
host_in-fields h is =
    rw (number-printed MAX_WRITTEN_SKEW h.skew (omega (arith, ints)) is.valid.skew_low is.skew, number-printed MAX_GAP h.gap (omega (arith, ints)) is.valid.gap_low is.valid.gap_high) refl

-- the names of hosts differ
abbrev pub AreDistinct : List Host → Type 0
AreDistinct hosts = AllPairs (λ g h. h.name ≡ g.name → ⊥) hosts

-- a host is found by its name
pub place-found : (hosts : List Host) (i : ℕ) → AreDistinct hosts → i < length hosts → place_of_host hosts (host_name hosts i) ≡ Some i
place-found [] i distinct within = absurd (omega arith)
place-found (first ∷ others) i distinct within =
    let hosts = first ∷ others in
    let h = get_or hosts i first in
    let named : host_name hosts i ≡ h.name = rw (slice_get-get_or hosts i first within) refl in
    let other =
    λ (k : ℕ) (before : k < i). false_from_ne_true (bytes_eq (get_or hosts k first).name h.name)
    (λ same. distinct k i first before within (sym ((bytes_eq-Decides (get_or hosts k first).name h.name).0 same))) in
    ap (place_of_host hosts) named ∙ position-found (λ g. bytes_eq g.name h.name) hosts i first within other ((bytes_eq-Decides h.name h.name).1 refl)

-- a row of these hosts that a text can state
pub record IsOf (hosts : List Host) (r : Row) : Type 0 where
  pub host : r.host < length hosts
  pub local : IsWithin MAX_LOCAL r.local
  pub name : is_name (name_in r.act) ≡ true

-- hosts before their latencies have the same names
pub host_name-bare : (hosts : List Host) (i : ℕ) → host_name (map bare hosts) i ≡ host_name hosts i
host_name-bare [] i = refl
host_name-bare (h ∷ hs) zero = refl
host_name-bare (h ∷ hs) (suc i) = host_name-bare hs i

pub distinct-bare : (hosts : List Host) → AreDistinct hosts → AreDistinct (map bare hosts)
distinct-bare hosts distinct i j d before within =
    let below : j < length hosts = rw length-map at within in
    let first : i < length hosts = omega arith in
    rw (get_or-map bare hosts i d d first, get_or-map bare hosts j d d below) (distinct i j d before below)

-- so they are found by the names that records have
pub place-bare : (hosts : List Host) (i : ℕ) → AreDistinct hosts → i < length hosts → place_of_host (map bare hosts) (host_name hosts i) ≡ Some i
place-bare hosts i distinct within = ap (place_of_host (map bare hosts)) (sym (host_name-bare hosts i)) ∙ place-found (map bare hosts) i (distinct-bare hosts distinct) (rw length-map within)

-- the record of a row gives it
pub row_in-bare : (hosts : List Host) (r : Row) → AreDistinct hosts → IsOf hosts r → row_in (map bare hosts) (row_fields hosts r) ≡ Some r
row_in-bare hosts r distinct is =
    rw (kind_of-word r.act, place-bare hosts r.host distinct is.host, signed-printed MAX_LOCAL r.local (omega (arith, ints)) is.local.low is.local.high, act_of-kind r.act) refl

-- the name at a place is that of the host there
pub host_name-at : (before : List Host) (h : Host) (after : List Host) → host_name (before ++ h ∷ after) (length before) ≡ h.name
host_name-at [] h after = refl
host_name-at (g ∷ gs) h after = host_name-at gs h after
