-- The records of a log's text are lines of plain fields, which `csv` reads as they are.
use Rattle.std.proofs.Common.{◌≡◌, ◌∙◌, ap, refl, arith, ℕ, suc, ◌<◌, ◌≤◌, ◌==◌, true, Option, Some, None, ◌++◌, List, [], ◌∷◌, length, map}
use Rattle.std.specs.Prelude.{All, IfSome, filter}
use Rattle.std.specs.Fmt.{decimal}
use Rattle.std.specs.List.{flat_map}
use Rattle.std.proofs.lemmas.Int.{ints}
use Rattle.std.proofs.lemmas.List.Elements.{All-append, All-cons, All-filter, All-from_recursion, All-head, All-map, All-tail}
use Rattle.std.proofs.lemmas.Option.{slice_get-get_or}
use Rattle.csv.specs.Reading.{default_config, records, strip_bom}
use Rattle.mt_model.specs.declared.log.Act.{Act}
use Rattle.mt_model.specs.declared.log.Act.TheVariants as act
use Rattle.mt_model.specs.declared.log.Host.{Host}
use Rattle.mt_model.specs.declared.log.Row.{Row}
use Rattle.mt_model.specs.declared.log.Extra.{Extra}
use Rattle.mt_model.specs.declared.reading.Reading.{Reading}
use Rattle.mt_model.specs.Log.{AreClockNames, IsExtra, IsLog, IsReading, Logged, name_in}
use Rattle.mt_model.specs.Name.{is_name}
use Rattle.log_read.specs.LogText.{act_word, bound_fields, clock_name, has_latency, header, host_fields, host_name, latency_fields, line_of, log_records, log_text, marks_at, most_text, reading_fields, readings_at, resync_fields, resyncs_at, row_fields, rows_from, version_for}
use Rattle.mt_model.specs.declared.resync.Resync.{Resync}
use Rattle.mt_model.specs.declared.limits.TheConstants.{MAX_DELAY, MAX_ROWS}
use Rattle.log_read.specs.declared.version.Version.{Version}
use Rattle.log_read.specs.declared.version.Version.TheVariants as version
use Rattle.log_read.specs.Records.{Record}
use Rattle.log_read.proofs.ClearReadings.{clock_name-is_name}
use Rattle.log_read.proofs.ClearResyncs.{IsWritableResync}
use Rattle.log_read.proofs.Lines.{IsLine, IsPlainField, records-lines}
use Rattle.log_read.proofs.PlainFields.{decimal-plain, name-plain, signed_decimal-plain}
use Rattle.log_read.proofs.WrittenRecords.{IsOf, IsWritable}

-- four plain fields are a line
four-fields : (a b c d : List ℕ) → IsPlainField a → IsPlainField b → IsPlainField c → IsPlainField d → IsLine (a ∷ b ∷ c ∷ d ∷ [])
four-fields a b c d p q r s = record {
  some = omega arith;
  fields = All-from_recursion IsPlainField (a ∷ b ∷ c ∷ d ∷ []) (p, (q, (r, (s, tt))));
}

-- the record of a host is a line
host-line : (h : Host) → IsWritable h → IsLine (host_fields h)
host-line h is =
    four-fields _ _ _ _ refl (name-plain h.name is.name)
    (let low = is.valid.skew_low in let high = is.skew in signed_decimal-plain h.skew (omega (arith, ints)) (omega (arith, ints)))
    (let low = is.valid.gap_low in let high = is.valid.gap_high in signed_decimal-plain h.gap (omega (arith, ints)) (omega (arith, ints)))

word-plain : (a : Act) → IsPlainField (act_word a)
word-plain (act.Set name) = refl
word-plain (act.Clear name) = refl
word-plain (act.Send name) = refl
word-plain (act.Recv name) = refl
word-plain (act.Note name) = refl
word-plain (act.Pulse name) = refl

-- the host at a place has a name
named : (hosts : List Host) (i : ℕ) → All IsWritable hosts → i < length hosts → is_name (host_name hosts i) ≡ true
named [] i all within = absurd (omega arith)
named (h ∷ hs) i all within =
    let is = all i h within in
    rw (slice_get-get_or (h ∷ hs) i h within) is.name

-- the record of a row is a line
row-line : (hosts : List Host) (r : Row) → All IsWritable hosts → IsOf hosts r → IsLine (row_fields hosts r)
row-line hosts r all is =
    four-fields _ _ _ _ (word-plain r.act) (name-plain (host_name hosts r.host) (named hosts r.host all is.host))
    (let low = is.local.low in let high = is.local.high in signed_decimal-plain r.local (omega (arith, ints)) (omega (arith, ints)))
    (name-plain (name_in r.act) is.name)

-- the record of a latency is a line
latency-line : (h : Host) → IsWritable h → IsLine (latency_fields h)
latency-line h is =
    let delays = is.valid.delays in
    let least : IsPlainField (decimal h.least) = let high = delays.least_high in decimal-plain h.least (omega (arith, high)) in
    four-fields _ _ _ _ refl (name-plain h.name is.name) least (most h.most delays.most_high)
  where
    most : (m : Option ℕ) → IfSome m (λ n. n ≤ MAX_DELAY) → IsPlainField (most_text m)
    most None high = refl
    most (Some n) high = decimal-plain n (omega (arith, high))

-- the record of a resync is a line
resync-line : (hosts : List Host) (rows : ℕ) (r : Resync) → All IsWritable hosts → IsWritableResync (length hosts) rows r → IsLine (resync_fields hosts r)
resync-line hosts rows r all is =
    four-fields _ _ _ _ refl (name-plain (host_name hosts r.host) (named hosts r.host all is.valid.host))
    (let low = is.valid.skew_low in let high = is.skew in signed_decimal-plain r.skew (omega (arith, ints)) (omega (arith, ints)))
    (let low = is.valid.gap_low in let high = is.valid.gap_high in signed_decimal-plain r.gap (omega (arith, ints)) (omega (arith, ints)))

-- the record of a reading is a line
reading-line : (log : Logged) (rows : ℕ) (r : Reading) → All IsWritable log.hosts → AreClockNames log.clocks → IsReading (length log.hosts) rows (length log.clocks) r → IsLine (reading_fields log.hosts log.clocks r)
reading-line log rows r all names is =
    four-fields _ _ _ _ refl (name-plain (host_name log.hosts r.host) (named log.hosts r.host all is.host))
    (let low = is.error_low in let high = is.error_high in signed_decimal-plain r.error (omega (arith, ints)) (omega (arith, ints)))
    (name-plain (clock_name log.clocks r.clock) (clock_name-is_name log.clocks names r.clock is.clock))

-- the record of a bound is a line
bound-line : (rows : ℕ) (x : Extra) → rows ≤ MAX_ROWS → IsExtra rows x → IsLine (bound_fields x)
bound-line rows x few is =
    four-fields _ _ _ _ refl (decimal-plain x.e (let low = is.e in omega (arith, low, few))) (decimal-plain x.f (let low = is.f in omega (arith, low, few)))
    (let low = is.bound.low in let high = is.bound.high in signed_decimal-plain x.c (omega (arith, ints)) (omega (arith, ints)))

module _ (log : Logged) (valid : IsLog log) (writable : All IsWritable log.hosts) (each : All (IsWritableResync (length log.hosts) (length log.rows)) log.resyncs) where
  marks-lines : (place : ℕ) → All IsLine (marks_at log place)
  marks-lines place =
      All-append IsLine (resyncs_at log.hosts log.resyncs place) (readings_at log.hosts log.clocks log.readings place)
      (All-map IsLine (resync_fields log.hosts) (filter (λ r. r.place == place) log.resyncs)
      (All-filter (λ r. r.place == place) (λ r. IsLine (resync_fields log.hosts r)) log.resyncs (λ k d within. resync-line log.hosts (length log.rows) _ writable (each k d within))))
      (All-map IsLine (reading_fields log.hosts log.clocks) (filter (λ r. r.place == place) log.readings)
      (All-filter (λ r. r.place == place) (λ r. IsLine (reading_fields log.hosts log.clocks r)) log.readings
      (λ k d within. reading-line log (length log.rows) _ writable valid.clocks (valid.readings.each k d within))))

  rows-lines : (place : ℕ) (rows : List Row) → All (IsOf log.hosts) rows → All IsLine (rows_from log place rows)
  rows-lines place [] of = marks-lines place
  rows-lines place (r ∷ more) of =
      All-append IsLine (marks_at log place) (row_fields log.hosts r ∷ rows_from log (suc place) more) (marks-lines place)
      (All-cons IsLine (row_fields log.hosts r) (rows_from log (suc place) more) (row-line log.hosts r writable (All-head (IsOf log.hosts) r more of))
      (rows-lines (suc place) more (All-tail (IsOf log.hosts) r more of)))

header-line : (v : Version) → IsLine (header v)
header-line version.One = four-fields _ _ _ _ refl refl refl refl
header-line version.Two = four-fields _ _ _ _ refl refl refl refl
header-line version.Three = four-fields _ _ _ _ refl refl refl refl

-- the text has no byte order mark
header-first : (v : Version) (rest : List Record) → strip_bom (flat_map line_of (header v ∷ rest)) ≡ flat_map line_of (header v ∷ rest)
unfolding strip_bom
header-first version.One rest = refl
header-first version.Two rest = refl
header-first version.Three rest = refl

-- the records of a log's text are those of the log
pub records-written : (log : Logged) → IsLog log → All IsWritable log.hosts → All (IsWritableResync (length log.hosts) (length log.rows)) log.resyncs
    → All (IsOf log.hosts) log.rows → records default_config (strip_bom (log_text log)) ≡ log_records log
records-written log valid hosts resyncs rows =
    let declared = map host_fields log.hosts in
    let late = map latency_fields (filter has_latency log.hosts) in
    let given = rows_from log 0 log.rows in
    let bounds = map bound_fields log.extras in
    let rest = declared ++ late ++ given ++ bounds in
    ap (records default_config) (header-first (version_for log) rest)
    ∙ records-lines (log_records log) (All-cons IsLine (header (version_for log)) rest (header-line (version_for log))
    (All-append IsLine (declared ++ late ++ given) bounds
    (All-append IsLine (declared ++ late) given
    (All-append IsLine declared late
    (All-map IsLine host_fields log.hosts (λ k d within. host-line _ (hosts k d within)))
    (All-map IsLine latency_fields (filter has_latency log.hosts) (All-filter has_latency (λ h. IsLine (latency_fields h)) log.hosts (λ k d within. latency-line _ (hosts k d within)))))
    (rows-lines log valid hosts resyncs 0 log.rows rows))
    (All-map IsLine bound_fields log.extras (λ k d within. bound-line (length log.rows) _ valid.few_rows (valid.extras k d within)))))
