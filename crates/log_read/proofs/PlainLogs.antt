-- The log that records list can be stated by a log file again.
use Rattle.std.proofs.Common.{◌≡◌, ◌≤◌, ap, sym, subst, refl, ℕ, ◌+◌, List, get_or, [], ◌∷◌, ◌++◌, length, Option, Some, None, Ok, Err, IfOk, Result, ℤ, ◌≤ℤ◌}
use Rattle.std.specs.Prelude.{All, map, option_map, option_and_then, option_to_list}
use Rattle.std.specs.Option.{option_map_or}
use Rattle.std.specs.List.{cons_option}
use Rattle.std.proofs.lemmas.List.Elements.{All-append, All-cons, All-map, All-nil}
use Rattle.csv.specs.Reading.{default_config, records, strip_bom}
use Rattle.mt_model.specs.declared.log.Host.{Host}
use Rattle.mt_model.specs.declared.resync.Resync.{Resync}
use Rattle.mt_model.specs.declared.limits.TheConstants.{MAX_GAP, MAX_WRITTEN_EXTRAS, MAX_WRITTEN_SKEW, MIN_DELAY}
use Rattle.mt_model.specs.Log.{IsPlain, Logged}
use Rattle.log_read.specs.declared.fault.LogFault.{LogFault}
use Rattle.log_read.specs.declared.kind.Kind.{Kind}
use Rattle.log_read.specs.declared.kind.Kind.TheVariants as kind
use Rattle.log_read.specs.declared.latency.Latency.{Latency}
use Rattle.log_read.specs.declared.version.Version.{Version}
use Rattle.log_read.specs.LogOf.{log_of_records, log_under, version_of}
use Rattle.log_read.specs.Records.{Record, bounds_in, delayed, delayed_by, host_by, host_in, host_with, hosts_in, kind_of, latencies_in, latency_of, listed, log_from, place_of_host, resync_by, resync_in, resync_with, resyncs_after, row_in}
use Rattle.log_read.specs.Reading.{Answers}
use Rattle.log_read.specs.ValidLogs.{LogsArePlain}
use Rattle.log_read.proofs.Begun.{number_in_range}
use Rattle.log_read.proofs.ValidLogs.{under-begun}
use Rattle.decimal.specs.Numbers.{number_up_to}

abbrev Low : ℤ → Type 0
Low skew = skew ≤ℤ MAX_WRITTEN_SKEW

low-read : (bytes : List ℕ) (z : ℤ) → number_up_to MAX_WRITTEN_SKEW bytes ≡ Some z → Low z
low-read bytes z is = (number_in_range MAX_WRITTEN_SKEW bytes z is).1

-- ---- hosts

host_with-low : (name skew gap : List ℕ) (h : Host) → host_with name skew gap ≡ Some h → Low h.skew
host_with-low name skew gap h is = by (number_up_to MAX_WRITTEN_SKEW skew) (number_up_to MAX_GAP gap) refl is
  where
    by : (s g : Option ℤ) → number_up_to MAX_WRITTEN_SKEW skew ≡ s
        → option_and_then (λ x. option_map (λ y. let made : Host = record { name = name; skew = x; gap = y; least = MIN_DELAY; most = None } in made) g) s ≡ Some h
        → Low h.skew
    by None g read e = absurd (cc)
    by (Some x) None read e = absurd (cc)
    by (Some x) (Some y) read e = let same : x ≡ h.skew = ap (λ o. option_map_or (λ (k : Host). k.skew) o x) e in subst Low same (low-read skew x read)

host_by-low : (k : Option Kind) (name skew gap : List ℕ) (h : Host) → host_by k name skew gap ≡ Some h → Low h.skew
host_by-low None name skew gap h is = absurd (cc)
host_by-low (Some kind.Host) name skew gap h is = host_with-low name skew gap h is
host_by-low (Some (kind.Event e)) name skew gap h is = absurd (cc)
host_by-low (Some kind.Resync) name skew gap h is = absurd (cc)
host_by-low (Some kind.Latency) name skew gap h is = absurd (cc)
host_by-low (Some kind.Clock) name skew gap h is = absurd (cc)
host_by-low (Some kind.Bound) name skew gap h is = absurd (cc)

host_in-low : (r : Record) (h : Host) → host_in r ≡ Some h → Low h.skew
host_in-low [] h is = absurd (cc)
host_in-low (a ∷ []) h is = absurd (cc)
host_in-low (a ∷ b ∷ []) h is = absurd (cc)
host_in-low (a ∷ b ∷ c ∷ []) h is = absurd (cc)
host_in-low (a ∷ b ∷ c ∷ d ∷ []) h is = host_by-low (kind_of a) b c d h is
host_in-low (a ∷ b ∷ c ∷ d ∷ x ∷ xs) h is = absurd (cc)

one-low : (r : Record) (rs : List Record) (o : Option Host) → host_in r ≡ o → All (λ h. Low h.skew) (hosts_in rs) → All (λ h. Low h.skew) (cons_option o (hosts_in rs))
one-low r rs None is low = low
one-low r rs (Some h) is low = All-cons (λ (g : Host). Low g.skew) h (hosts_in rs) (host_in-low r h is) low

hosts-low : (rs : List Record) → All (λ h. Low h.skew) (hosts_in rs)
hosts-low [] = All-nil (λ (h : Host). Low h.skew)
hosts-low (r ∷ rs) = one-low r rs (host_in r) refl (hosts-low rs)

-- a latency leaves the skew of its host
delayed-skew : (o : Option Latency) (h : Host) → (delayed_by o h).skew ≡ h.skew
delayed-skew None h = refl
delayed-skew (Some l) h = refl

delayed-low : (ls : List Latency) (hosts : List Host) → All (λ h. Low h.skew) hosts → All (λ h. Low h.skew) (map (delayed ls) hosts)
delayed-low ls hosts low =
    All-map (λ (h : Host). Low h.skew) (delayed ls) hosts (λ k d within. subst Low (sym (delayed-skew (latency_of ls (get_or hosts k d).name) (get_or hosts k d))) (low k d within))

-- ---- resyncs

resync_with-low : (hosts : List Host) (rows : ℕ) (host skew gap : List ℕ) (r : Resync) → resync_with hosts rows host skew gap ≡ Some r → Low r.skew
resync_with-low hosts rows host skew gap r is = by (place_of_host hosts host) (number_up_to MAX_WRITTEN_SKEW skew) (number_up_to MAX_GAP gap) refl is
  where
    by : (p : Option ℕ) (s g : Option ℤ) → number_up_to MAX_WRITTEN_SKEW skew ≡ s
        → option_and_then (λ h. option_and_then (λ x. option_map (λ y. let made : Resync = record { place = rows; host = h; skew = x; gap = y } in made) g) s) p ≡ Some r → Low r.skew
    by None s g read e = absurd (cc)
    by (Some h) None g read e = absurd (cc)
    by (Some h) (Some x) None read e = absurd (cc)
    by (Some h) (Some x) (Some y) read e = let same : x ≡ r.skew = ap (λ o. option_map_or (λ (q : Resync). q.skew) o x) e in subst Low same (low-read skew x read)

resync_by-low : (hosts : List Host) (rows : ℕ) (k : Option Kind) (host skew gap : List ℕ) (r : Resync) → resync_by hosts rows k host skew gap ≡ Some r → Low r.skew
resync_by-low hosts rows None host skew gap r is = absurd (cc)
resync_by-low hosts rows (Some kind.Host) host skew gap r is = absurd (cc)
resync_by-low hosts rows (Some (kind.Event e)) host skew gap r is = absurd (cc)
resync_by-low hosts rows (Some kind.Resync) host skew gap r is = resync_with-low hosts rows host skew gap r is
resync_by-low hosts rows (Some kind.Latency) host skew gap r is = absurd (cc)
resync_by-low hosts rows (Some kind.Clock) host skew gap r is = absurd (cc)
resync_by-low hosts rows (Some kind.Bound) host skew gap r is = absurd (cc)

resync_in-low : (hosts : List Host) (rows : ℕ) (rec : Record) (r : Resync) → resync_in hosts rows rec ≡ Some r → Low r.skew
resync_in-low hosts rows [] r is = absurd (cc)
resync_in-low hosts rows (a ∷ []) r is = absurd (cc)
resync_in-low hosts rows (a ∷ b ∷ []) r is = absurd (cc)
resync_in-low hosts rows (a ∷ b ∷ c ∷ []) r is = absurd (cc)
resync_in-low hosts rows (a ∷ b ∷ c ∷ d ∷ []) r is = resync_by-low hosts rows (kind_of a) b c d r is
resync_in-low hosts rows (a ∷ b ∷ c ∷ d ∷ x ∷ xs) r is = absurd (cc)

resyncs-low : (hosts : List Host) (rows : ℕ) (rs : List Record) → All (λ r. Low r.skew) (resyncs_after hosts rows rs)
resyncs-low hosts rows [] = All-nil (λ (r : Resync). Low r.skew)
resyncs-low hosts rows (rec ∷ rs) =
    let more = hosts ++ option_to_list (host_in rec) in
    let next = rows + length (option_to_list (row_in hosts rec)) in
    All-append (λ (r : Resync). Low r.skew) (option_to_list (resync_in hosts rows rec)) (resyncs_after more next rs) (by (resync_in hosts rows rec) refl) (resyncs-low more next rs)
  where
    by : (o : Option Resync) → resync_in hosts rows rec ≡ o → All (λ r. Low r.skew) (option_to_list o)
    by None is = All-nil (λ (r : Resync). Low r.skew)
    by (Some r) is = All-cons (λ (q : Resync). Low q.skew) r [] (resync_in-low hosts rows rec r is) (All-nil (λ (q : Resync). Low q.skew))

-- ---- the log

listed-plain : (rs : List Record) → length (bounds_in rs) ≤ MAX_WRITTEN_EXTRAS → IsPlain (log_from (listed rs))
listed-plain rs few = record { extras = few; skews = delayed-low (latencies_in rs) (hosts_in rs) (hosts-low rs); resyncs = resyncs-low [] 0 rs }

-- so is the log of any records
pub records-plain : (rs : List Record) (log : Logged) → log_of_records rs ≡ Ok log → IsPlain log
records-plain [] log is = absurd (cc)
records-plain (header ∷ rest) log is = by (version_of header) is
  where
    by : (o : Option Version) → log_under o rest ≡ Ok log → IsPlain log
    by None is = absurd (cc)
    by (Some v) is = let read = under-begun v rest log is in subst IsPlain read.1 (listed-plain rest read.0.few_bounds)

-- so is the log that a call answered, where it is the one that is due
pub answer-plain : (rs : List Record) (r : Result Logged LogFault) → Answers r (log_of_records rs) → IfOk r IsPlain
answer-plain rs (Ok log) is = records-plain rs log is
answer-plain rs (Err f) is = tt

pub logs-plain : LogsArePlain
logs-plain bytes log is = records-plain (records default_config (strip_bom bytes)) log is
