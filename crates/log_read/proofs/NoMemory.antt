-- Want of memory is the fault of no file: each test that a file can fail has a fault of its own.
use Rattle.std.proofs.Common.{◌≡◌, refl, ℕ, ◌+◌, Bool, true, false, List, [], ◌∷◌, ◌++◌, length, Option, Some, None, Err}
use Rattle.std.specs.Prelude.{if◌then◌else◌, nat_le, option_map, position}
use Rattle.mt_model.specs.declared.log.Host.{Host}
use Rattle.mt_model.specs.declared.log.Row.{Row}
use Rattle.mt_model.specs.declared.log.Extra.{Extra}
use Rattle.mt_model.specs.Log.{Logged}
use Rattle.csv.specs.Reading.{default_config, records, strip_bom}
use Rattle.log_read.specs.declared.fault.LogFault.{LogFault}
use Rattle.log_read.specs.declared.fault.LogFault.TheVariants as fault
use Rattle.log_read.specs.declared.kind.Kind.{Kind}
use Rattle.log_read.specs.declared.kind.Kind.TheVariants as kind
use Rattle.log_read.specs.declared.kind.EventKind.{EventKind}
use Rattle.log_read.specs.declared.latency.Latency.{Latency}
use Rattle.log_read.specs.declared.version.Version.{Version}
use Rattle.log_read.specs.LogOf.{bound_fault, clock_fault, event_fault, fault_by, fault_of, first_fault, first_unmatched, first_without_row, host_fault, is_unmatched, known_in, latency_fault, log_of_records, log_under, names_no_row, no_event, or_else, resync_fault, unless, version_of}
use Rattle.log_read.specs.Records.{Listing, Record, kind_of, listed, log_from}
use Rattle.log_read.specs.ValidLogs.{NoFileLacksMemory}

abbrev is-memory : Option LogFault → Bool
is-memory (Some fault.Memory) = true
is-memory _ = false

abbrev IsOther : Option LogFault → Type 0
IsOther o = is-memory o ≡ false

either : (b : Bool) (x y : Option LogFault) → IsOther x → IsOther y → IsOther (if b then x else y)
either true x y p q = p
either false x y p q = q

first-of : (a b : Option LogFault) → IsOther a → IsOther b → IsOther (or_else a b)
first-of None b p q = q
first-of (Some f) b p q = p

host : (place : ℕ) (hosts : List Host) (name skew gap : List ℕ) → IsOther (host_fault place hosts name skew gap)
host place hosts name skew gap = search (either)

event : (place : ℕ) (hosts : List Host) (rows : List Row) (k : EventKind) (h local name : List ℕ) → IsOther (event_fault place hosts rows k h local name)
event place hosts rows k h local name = search (either)

resync : (place : ℕ) (hosts : List Host) (h skew gap : List ℕ) → IsOther (resync_fault place hosts h skew gap)
resync place hosts h skew gap = search (either)

latency : (place : ℕ) (hosts : List Host) (latencies : List Latency) (h least most : List ℕ) → IsOther (latency_fault place hosts latencies h least most)
latency place hosts latencies h least most = search (either)

clock : (place : ℕ) (hosts : List Host) (clocks : List (List ℕ)) (h error name : List ℕ) → IsOther (clock_fault place hosts clocks h error name)
clock place hosts clocks h error name = search (either)

bound : (place : ℕ) (bounds : List Extra) (later earlier most : List ℕ) → IsOther (bound_fault place bounds later earlier most)
bound place bounds later earlier most = search (either)

by-kind : (place : ℕ) (before : Listing) (k : Option Kind) (a b c : List ℕ) → IsOther (fault_by place before k a b c)
by-kind place before None a b c = refl
by-kind place before (Some kind.Host) a b c = host place before.hosts a b c
by-kind place before (Some (kind.Event k)) a b c = event place before.hosts before.rows k a b c
by-kind place before (Some kind.Resync) a b c = resync place before.hosts a b c
by-kind place before (Some kind.Latency) a b c = latency place before.hosts before.latencies a b c
by-kind place before (Some kind.Clock) a b c = clock place before.hosts before.clocks a b c
by-kind place before (Some kind.Bound) a b c = bound place before.bounds a b c

one : (v : Version) (place : ℕ) (before : Listing) (r : Record) → IsOther (fault_of v place before r)
one v place before [] = refl
one v place before (a ∷ []) = refl
one v place before (a ∷ b ∷ []) = refl
one v place before (a ∷ b ∷ c ∷ []) = refl
one v place before (a ∷ b ∷ c ∷ d ∷ []) = by-kind place before (known_in v (kind_of a)) b c d
one v place before (a ∷ b ∷ c ∷ d ∷ x ∷ rest) = refl

all : (v : Version) (before rs : List Record) → IsOther (first_fault v before rs)
all v before [] = refl
all v before (r ∷ rs) = first-of (fault_of v (length before + 2) (listed before) r) (first_fault v (before ++ r ∷ []) rs) (one v (length before + 2) (listed before) r) (all v (before ++ r ∷ []) rs)

unmatched : (o : Option ℕ) → IsOther (option_map (λ n. fault.UnmatchedReceive (n + 2)) o)
unmatched None = refl
unmatched (Some n) = refl

empty : (l : Listing) → IsOther (no_event l)
empty l = either (nat_le 1 (length l.rows)) None (Some fault.NoEvent) refl refl

placeless : (o : Option ℕ) → IsOther (option_map (λ n. fault.NoRow (n + 2)) o)
placeless None = refl
placeless (Some n) = refl

-- a file's faults are those that a test gives
under : (o : Option LogFault) (log : Logged) → IsOther o → unless o log ≡ Err fault.Memory → ⊥
under None log p e = absurd (cc)
under (Some f) log p e = absurd (cc (p, e))

header : (v : Option Version) (rs : List Record) → log_under v rs ≡ Err fault.Memory → ⊥
header None rs e = absurd (cc)
header (Some v) rs e =
    let last = or_else (no_event (listed rs)) (first_without_row rs) in
    under (or_else (first_fault v [] rs) (or_else (first_unmatched rs) last)) (log_from (listed rs))
    (first-of (first_fault v [] rs) (or_else (first_unmatched rs) last) (all v [] rs)
    (first-of (first_unmatched rs) last (unmatched (position (is_unmatched (listed rs).rows) rs))
    (first-of (no_event (listed rs)) (first_without_row rs) (empty (listed rs)) (placeless (position (names_no_row (length (listed rs).rows)) rs))))) e

of-records : (rs : List Record) → log_of_records rs ≡ Err fault.Memory → ⊥
of-records [] e = absurd (cc)
of-records (h ∷ rest) e = header (version_of h) rest e

pub no-memory : NoFileLacksMemory
no-memory bytes = of-records (records default_config (strip_bom bytes))
