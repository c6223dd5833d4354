-- The log of a file is valid: each record that has no fault keeps what was listed the beginning of a valid log.
use Rattle.std.proofs.Common.{◌≡◌, subst, refl, arith, ℕ, ◌+◌, ◌≤◌, Bool, true, false, List, [], ◌∷◌, ◌++◌, append_assoc, length, Option, Some, None, Ok, lit≤}
use Rattle.std.specs.Prelude.{if◌then◌else◌, nat_le, option_map, option_to_list, position}
use Rattle.std.proofs.lemmas.Bool.Decides.{nat_tests}
use Rattle.std.proofs.lemmas.List.{append-nil}
use Rattle.std.proofs.lemmas.List.Elements.{All-nil}
use Rattle.csv.specs.Reading.{default_config, records, strip_bom}
use Rattle.mt_model.specs.declared.log.Host.{Host}
use Rattle.mt_model.specs.declared.log.Row.{Row}
use Rattle.mt_model.specs.Log.{Logged, IsLog, IsHost, IsReading, IsResync, IsRow}
use Rattle.mt_model.specs.Name.{is_name}
use Rattle.mt_model.specs.declared.reading.Reading.{Reading}
use Rattle.mt_model.specs.declared.log.Extra.{Extra}
use Rattle.log_read.specs.declared.fault.LogFault.{LogFault}
use Rattle.log_read.specs.declared.fault.LogFault.TheVariants as fault
use Rattle.mt_model.specs.declared.resync.Resync.{Resync}
use Rattle.log_read.specs.declared.latency.Latency.{Latency}
use Rattle.log_read.specs.declared.version.Version.{Version}
use Rattle.log_read.specs.declared.version.Version.TheVariants as version
use Rattle.log_read.specs.declared.kind.Kind.{Kind}
use Rattle.log_read.specs.declared.kind.Kind.TheVariants as kind
use Rattle.log_read.specs.declared.kind.EventKind.TheVariants as event
use Rattle.log_read.specs.LogOf.{fault_by, fault_of, first_fault, first_unmatched, first_without_row, is_unmatched, names_no_row, known_in, log_of_records, log_under, log_under_header, no_event, or_else, unless, version_of}
use Rattle.log_read.specs.Reading.{IsBegun, IsBound, IsLatency, with_record}
use Rattle.log_read.specs.Records.{Listing, Record, bound_by, bound_with, clock_by, new_clock, reading_by, reading_with, host_by, host_with, kind_of, latency_by, latency_with, listed, log_from, resync_by, resync_with, row_by, row_with}
use Rattle.log_read.specs.ValidLogs.{LogsAreValid}
use Rattle.log_read.proofs.Begun.{begun_bound, begun_clock, begun_host, begun_latency, begun_resync, begun_row, finished, no_reading}
use Rattle.log_read.proofs.FirstFaults.{all-matched, all-placed}
use Rattle.log_read.proofs.Listing.{listed-push, listing}

module _ (place : ℕ) (l : Listing) (begun : IsBegun l) where
  -- what a record of a kind lists after it
  abbrev Next : Option Kind → List ℕ → List ℕ → List ℕ → Listing
  Next k a b c = record {
    hosts = l.hosts ++ option_to_list (host_by k a b c);
    rows = l.rows ++ option_to_list (row_by l.hosts k a b c);
    resyncs = l.resyncs ++ option_to_list (resync_by l.hosts (length l.rows) k a b c);
    latencies = l.latencies ++ option_to_list (latency_by k a b c);
    clocks = l.clocks ++ option_to_list (clock_by l.clocks k a b c);
    readings = l.readings ++ option_to_list (reading_by l.hosts l.clocks (length l.rows) k a b c);
    bounds = l.bounds ++ option_to_list (bound_by k a b c);
  }

  kind-begun : (k : Option Kind) (a b c : List ℕ) → fault_by place l k a b c ≡ None → IsBegun (Next k a b c)
  kind-begun None a b c clear = absurd (cc)
  kind-begun (Some kind.Host) a b c clear =
      rw (append-nil l.rows, append-nil l.resyncs, append-nil l.latencies, append-nil l.clocks, append-nil l.readings, append-nil l.bounds) (go (host_with a b c) refl)
    where
      go : (o : Option Host) → host_with a b c ≡ o → IsBegun (listing (l.hosts ++ option_to_list o) l.rows l.resyncs l.latencies l.clocks l.readings l.bounds)
      go None is = rw (append-nil l.hosts) begun
      go (Some h) is = begun_host place l h a b c begun clear is
  kind-begun (Some (kind.Event e)) a b c clear =
      rw (append-nil l.hosts, append-nil l.resyncs, append-nil l.latencies, append-nil l.clocks, append-nil l.readings, append-nil l.bounds) (go (row_with l.hosts e a b c) refl)
    where
      go : (o : Option Row) → row_with l.hosts e a b c ≡ o → IsBegun (listing l.hosts (l.rows ++ option_to_list o) l.resyncs l.latencies l.clocks l.readings l.bounds)
      go None is = rw (append-nil l.rows) begun
      go (Some r) is = begun_row place l r e a b c begun clear is
  kind-begun (Some kind.Resync) a b c clear =
      rw (append-nil l.hosts, append-nil l.rows, append-nil l.latencies, append-nil l.clocks, append-nil l.readings, append-nil l.bounds) (go (resync_with l.hosts (length l.rows) a b c) refl)
    where
      go : (o : Option Resync) → resync_with l.hosts (length l.rows) a b c ≡ o → IsBegun (listing l.hosts l.rows (l.resyncs ++ option_to_list o) l.latencies l.clocks l.readings l.bounds)
      go None is = rw (append-nil l.resyncs) begun
      go (Some r) is = begun_resync l r a b c begun is
  kind-begun (Some kind.Latency) a b c clear =
      rw (append-nil l.hosts, append-nil l.rows, append-nil l.resyncs, append-nil l.clocks, append-nil l.readings, append-nil l.bounds) (go (latency_with a b c) refl)
    where
      go : (o : Option Latency) → latency_with a b c ≡ o → IsBegun (listing l.hosts l.rows l.resyncs (l.latencies ++ option_to_list o) l.clocks l.readings l.bounds)
      go None is = rw (append-nil l.latencies) begun
      go (Some d) is = begun_latency place l d a b c begun clear is
  kind-begun (Some kind.Clock) a b c clear =
      rw (append-nil l.hosts, append-nil l.rows, append-nil l.resyncs, append-nil l.latencies, append-nil l.bounds) (go (reading_with l.hosts l.clocks (length l.rows) a b c) refl)
    where
      go : (o : Option Reading) → reading_with l.hosts l.clocks (length l.rows) a b c ≡ o
          → IsBegun (listing l.hosts l.rows l.resyncs l.latencies (l.clocks ++ option_to_list (new_clock l.clocks c)) (l.readings ++ option_to_list o) l.bounds)
      go None is = absurd (no_reading place l a b c clear is)
      go (Some r) is = begun_clock place l r a b c begun clear is
  kind-begun (Some kind.Bound) a b c clear =
      rw (append-nil l.hosts, append-nil l.rows, append-nil l.resyncs, append-nil l.latencies, append-nil l.clocks, append-nil l.readings) (go (bound_with a b c) refl)
    where
      go : (o : Option Extra) → bound_with a b c ≡ o → IsBegun (listing l.hosts l.rows l.resyncs l.latencies l.clocks l.readings (l.bounds ++ option_to_list o))
      go None is = rw (append-nil l.bounds) begun
      go (Some x) is = begun_bound place l x a b c begun clear is

  -- a kind that the version does not know is a fault, so that the kind is the one of the word
  known-begun : (v : Version) (k : Option Kind) (a b c : List ℕ) → fault_by place l (known_in v k) a b c ≡ None → IsBegun (Next k a b c)
  known-begun version.One None a b c clear = absurd (cc)
  known-begun version.One (Some kind.Host) a b c clear = kind-begun (Some kind.Host) a b c clear
  known-begun version.One (Some (kind.Event event.Pulse)) a b c clear = absurd (cc)
  known-begun version.One (Some (kind.Event e)) a b c clear = kind-begun (Some (kind.Event e)) a b c clear
  known-begun version.One (Some kind.Resync) a b c clear = absurd (cc)
  known-begun version.One (Some kind.Latency) a b c clear = absurd (cc)
  known-begun version.One (Some kind.Clock) a b c clear = absurd (cc)
  known-begun version.One (Some kind.Bound) a b c clear = absurd (cc)
  known-begun version.Two None a b c clear = absurd (cc)
  known-begun version.Two (Some kind.Clock) a b c clear = absurd (cc)
  known-begun version.Two (Some kind.Bound) a b c clear = absurd (cc)
  known-begun version.Two (Some k) a b c clear = kind-begun (Some k) a b c clear
  known-begun version.Three k a b c clear = kind-begun k a b c clear

  record-begun : (v : Version) (r : Record) → fault_of v place l r ≡ None → IsBegun (with_record l r)
  record-begun v [] clear = absurd (cc)
  record-begun v (a ∷ []) clear = absurd (cc)
  record-begun v (a ∷ b ∷ []) clear = absurd (cc)
  record-begun v (a ∷ b ∷ c ∷ []) clear = absurd (cc)
  record-begun v (a ∷ b ∷ c ∷ d ∷ []) clear = known-begun v (kind_of a) b c d clear
  record-begun v (a ∷ b ∷ c ∷ d ∷ x ∷ xs) clear = absurd (cc)

neither : (a b : Option LogFault) → or_else a b ≡ None → (a ≡ None) × (b ≡ None)
neither None b h = (refl, h)
neither (Some f) b h = absurd (cc)

-- what records list that have no fault is the beginning of a valid log
records-begun : (v : Version) (before rest : List Record) → IsBegun (listed before) → first_fault v before rest ≡ None → IsBegun (listed (before ++ rest))
records-begun v before [] begun clear = rw (append-nil before) begun
records-begun v before (r ∷ rs) begun clear =
    let both = neither (fault_of v (length before + 2) (listed before) r) (first_fault v (before ++ r ∷ []) rs) clear in
    let next : IsBegun (listed (before ++ r ∷ [])) = rw (listed-push before r) (record-begun (length before + 2) (listed before) begun v r both.0) in
    subst (λ records. IsBegun (listed records)) (append_assoc before (r ∷ []) rs) (records-begun v (before ++ r ∷ []) rs next both.1)

none-begun : IsBegun (listed [])
none-begun = record {
  few_hosts = lit≤ tt;
  few_rows = lit≤ tt;
  names = λ i j d less below. absurd (omega arith);
  hosts = All-nil IsHost;
  rows = All-nil (IsRow 0);
  sent_once = λ i j d less below. absurd (omega arith);
  resyncs = record { each = All-nil (IsResync 0 0); in_order = λ i j d less below. absurd (omega arith) };
  latencies = All-nil IsLatency;
  clocks = record { few = lit≤ tt; named = All-nil (λ (n : List ℕ). is_name n ≡ true); apart = λ i j d less below. absurd (omega arith) };
  readings = record {
    each = All-nil (IsReading 0 0 0);
    in_order = λ i j d less below. absurd (omega arith);
    in_turn = λ i k d low less. absurd (omega arith);
    read = λ k less. absurd (omega arith);
  };
  few_bounds = lit≤ tt;
  bounds = All-nil IsBound;
}

unless-ok : (o : Option LogFault) (l log : Logged) → unless o l ≡ Ok log → (o ≡ None) × (l ≡ log)
unless-ok None l log h = (refl, cc)
unless-ok (Some f) l log h = absurd (cc)

found-none : (o : Option ℕ) → option_map (λ n. fault.UnmatchedReceive (n + 2)) o ≡ None → o ≡ None
found-none None h = refl
found-none (Some n) h = absurd (cc)

none-without : (o : Option ℕ) → option_map (λ n. fault.NoRow (n + 2)) o ≡ None → o ≡ None
none-without None h = refl
none-without (Some n) h = absurd (cc)

some-row : (log : Listing) → no_event log ≡ None → 1 ≤ length log.rows
some-row log = go (nat_le 1 (length log.rows)) refl
  where
    go : (b : Bool) → nat_le 1 (length log.rows) ≡ b → (let o : Option LogFault = (if b then None else Some fault.NoEvent) in o) ≡ None → 1 ≤ length log.rows
    go true is h = grind (arith, nat_tests)
    go false is h = absurd (cc)

-- what a file without a fault lists is the beginning of a valid log, and gives the log
pub under-begun : (v : Version) (rest : List Record) (log : Logged) → log_under_header v rest ≡ Ok log → IsBegun (listed rest) × (log_from (listed rest) ≡ log)
under-begun v rest log is =
    let ok = unless-ok _ (log_from (listed rest)) log is in
    let first = neither (first_fault v [] rest) _ ok.0 in
    (records-begun v [] rest none-begun first.0, ok.1)

under-valid : (v : Version) (rest : List Record) (log : Logged) → log_under_header v rest ≡ Ok log → IsLog log
under-valid v rest log is =
    let ok = unless-ok _ (log_from (listed rest)) log is in
    let first = neither (first_fault v [] rest) _ ok.0 in
    let second = neither (first_unmatched rest) (or_else (no_event (listed rest)) (first_without_row rest)) first.1 in
    let third = neither (no_event (listed rest)) (first_without_row rest) second.1 in
    let none = found-none (position (is_unmatched (listed rest).rows) rest) second.0 in
    let placed = none-without (position (names_no_row (length (listed rest).rows)) rest) third.1 in
    subst IsLog ok.1
    (finished (listed rest) (records-begun v [] rest none-begun first.0) (some-row (listed rest) third.0) (all-matched rest none) (all-placed rest placed))

records-valid : (rs : List Record) (log : Logged) → log_of_records rs ≡ Ok log → IsLog log
records-valid [] log is = absurd (cc)
records-valid (header ∷ rest) log is = go (version_of header) is
  where
    go : (o : Option Version) → log_under o rest ≡ Ok log → IsLog log
    go (Some v) is = under-valid v rest log is
    go None is = absurd (cc)

pub logs-valid : LogsAreValid
logs-valid bytes log is = records-valid (records default_config (strip_bom bytes)) log is
