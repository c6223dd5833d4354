-- The text of a plain log reads back as the log.
use Rattle.std.proofs.Common.{◌≡◌, ◌∙◌, sym, ap, refl, subst, ℕ, suc, ◌≤◌, ◌==◌, Bool, true, false, cond, List, [], ◌∷◌, ◌++◌, length, get_or, map, take, Some, None, Ok}
use Rattle.std.specs.Prelude.{All, IfSome, filter, if◌then◌else◌, nat_le, not, position, ◌&&◌, ◌||◌}
use Rattle.std.specs.List.{list_any}
use Rattle.std.specs.Option.{option_map_or}
use Rattle.std.proofs.Math.Seq.{take-length}
use Rattle.std.proofs.lemmas.Bool.{eqb-true, lt-leb, or_parts}
use Rattle.std.proofs.lemmas.List.{nil_from_length}
use Rattle.std.proofs.lemmas.List.Elements.{All-append, All-cons, All-head, All-map, All-nil, All-tail}
use Rattle.std.proofs.lemmas.List.Folds.{list_any_at}
use Rattle.std.proofs.lemmas.Slice.Eq.{bytes_eq-Decides}
use Rattle.mt_model.specs.declared.log.Act.{Act}
use Rattle.mt_model.specs.declared.log.Act.TheVariants as act
use Rattle.mt_model.specs.declared.log.Host.{Host}
use Rattle.mt_model.specs.declared.log.Row.{Row}
use Rattle.mt_model.specs.declared.log.Extra.{Extra}
use Rattle.mt_model.specs.declared.reading.Reading.{Reading}
use Rattle.mt_model.specs.declared.resync.Resync.{Resync}
use Rattle.mt_model.specs.declared.limits.TheConstants.{MAX_ROWS}
use Rattle.mt_model.specs.Log.{Logged, IsExtra, IsLog, IsPlain, IsSent, is_pulse, received_by, name_in}
use Rattle.mt_model.specs.Timing.{is_send_of}
use Rattle.log_read.specs.declared.kind.Kind.TheVariants as kind
use Rattle.log_read.specs.declared.version.Version.{Version}
use Rattle.log_read.specs.declared.version.Version.TheVariants as version
use Rattle.log_read.specs.Records.{Listing, Record, log_from}
use Rattle.log_read.specs.LogOf.{is_sent, is_unmatched, is_unmatched_by, known_in, lacks_row, log_of_records, log_under, names_no_row, version_of}
use Rattle.log_read.specs.LogText.{TextsReadBack, bound_fields, has_latency, has_pulse, header, host_fields, latency_fields, marks_at, reading_fields, readings_at, resync_fields, resyncs_at, row_fields, rows_from, version_for}
use Rattle.log_read.proofs.ClearBounds.{bound_in-fields, bounds-run}
use Rattle.log_read.proofs.ClearHosts.{AreHosts, hosts-run}
use Rattle.log_read.proofs.ClearLatencies.{all-delays-back, latencies-run, listing_of, stated}
use Rattle.log_read.proofs.ClearReadings.{readings-block, readings_before}
use Rattle.log_read.proofs.ClearResyncs.{IsWritableResync, resyncs-block, resyncs_before}
use Rattle.log_read.proofs.ClearRows.{AreRowsOf, IsKnown, row-bound, rows-run, rows_listing}
use Rattle.log_read.proofs.FirstFaults.{log-is}
use Rattle.log_read.proofs.Listing.{listing}
use Rattle.log_read.proofs.Middles.{position-none}
use Rattle.log_read.proofs.Places.{before-all, before-none}
use Rattle.log_read.proofs.ReadClocks.{all-clocks, clocks_read}
use Rattle.log_read.proofs.Runs.{Runs, runs-append, runs-none}
use Rattle.log_read.proofs.WrittenLines.{records-written}
use Rattle.log_read.proofs.WrittenRecords.{IsOf, IsWritable, bare, kind_in, kind_of-word}

-- a message that some row sends is found among the rows
is_sent-of : (rows : List Row) (message : List ℕ) → IsSent rows message → is_sent rows message ≡ true
is_sent-of rows message (k, q, within, at, sends) =
    let test : is_send_of message (get_or rows k q) ≡ true = rw (at, sends) ((bytes_eq-Decides message message).1 refl) in
    list_any_at (is_send_of message) rows k q within test

act-matched : (rows : List Row) (a : Act) → IfSome (received_by a) (IsSent rows) → is_unmatched_by rows (Some (kind.Event (kind_in a))) (name_in a) ≡ false
act-matched rows (act.Recv message) sent = ap not (is_sent-of rows message sent)
act-matched rows (act.Set name) sent = refl
act-matched rows (act.Clear name) sent = refl
act-matched rows (act.Send name) sent = refl
act-matched rows (act.Note name) sent = refl
act-matched rows (act.Pulse name) sent = refl

-- the record of a row that receives what is sent is matched
row-matched : (rows : List Row) (hosts : List Host) (r : Row) → IfSome (received_by r.act) (IsSent rows) → is_unmatched rows (row_fields hosts r) ≡ false
row-matched rows hosts r sent = rw (kind_of-word r.act) (act-matched rows r.act sent)

-- what stands before a row receives nothing
marks-matched : (all : List Row) (log : Logged) (place : ℕ) → All (λ q. is_unmatched all q ≡ false) (marks_at log place)
marks-matched all log place =
    let passes = λ (q : Record). is_unmatched all q ≡ false in
    All-append passes (resyncs_at log.hosts log.resyncs place) (readings_at log.hosts log.clocks log.readings place)
    (All-map passes (resync_fields log.hosts) (filter (λ r. r.place == place) log.resyncs) (λ k d within. refl))
    (All-map passes (reading_fields log.hosts log.clocks) (filter (λ r. r.place == place) log.readings) (λ k d within. refl))

-- each receive in a log's text is matched
rows-matched : (all : List Row) (log : Logged) (place : ℕ) (rows : List Row) → All (λ r. IfSome (received_by r.act) (IsSent all)) rows
    → All (λ q. is_unmatched all q ≡ false) (rows_from log place rows)
rows-matched all log place [] sent = marks-matched all log place
rows-matched all log place (r ∷ more) sent =
    let passes = λ (q : Record). is_unmatched all q ≡ false in
    let one = λ (r : Row). IfSome (received_by r.act) (IsSent all) in
    All-append passes (marks_at log place) (row_fields log.hosts r ∷ rows_from log (suc place) more) (marks-matched all log place)
    (All-cons passes (row_fields log.hosts r) (rows_from log (suc place) more) (row-matched all log.hosts r (All-head one r more sent))
    (rows-matched all log (suc place) more (All-tail one r more sent)))

-- the records under the header
abbrev rest_of : Logged → List Record
rest_of log = map host_fields log.hosts ++ map latency_fields (filter has_latency log.hosts) ++ rows_from log 0 log.rows ++ map bound_fields log.extras

-- what holds of the record of each host, latency, mark, row and bound holds of each record under the header
rest-passes : (P : Record → Type 0) (log : Logged) → ((h : Host) → P (host_fields h)) → ((h : Host) → P (latency_fields h)) → All P (rows_from log 0 log.rows)
    → All (λ x. P (bound_fields x)) log.extras → All P (rest_of log)
rest-passes P log hosts late rows bounds =
    let declared = map host_fields log.hosts in
    let delays = map latency_fields (filter has_latency log.hosts) in
    All-append P (declared ++ delays ++ rows_from log 0 log.rows) (map bound_fields log.extras)
    (All-append P (declared ++ delays) (rows_from log 0 log.rows)
    (All-append P declared delays (All-map P host_fields log.hosts (λ k d within. hosts (get_or log.hosts k d)))
    (All-map P latency_fields (filter has_latency log.hosts) (λ k d within. late (get_or (filter has_latency log.hosts) k d)))) rows)
    (All-map P bound_fields log.extras bounds)

all-matched : (log : Logged) → IsLog log → position (is_unmatched log.rows) (rest_of log) ≡ None
all-matched log valid =
    position-none (is_unmatched log.rows) (rest_of log) []
    (rest-passes (λ q. is_unmatched log.rows q ≡ false) log (λ h. refl) (λ h. refl) (rows-matched log.rows log 0 log.rows valid.rows.sent) (λ k d within. refl))

-- what stands before a row, and the row, name no row
marks-placed : (n : ℕ) (log : Logged) (place : ℕ) → All (λ q. names_no_row n q ≡ false) (marks_at log place)
marks-placed n log place =
    let passes = λ (q : Record). names_no_row n q ≡ false in
    All-append passes (resyncs_at log.hosts log.resyncs place) (readings_at log.hosts log.clocks log.readings place)
    (All-map passes (resync_fields log.hosts) (filter (λ r. r.place == place) log.resyncs) (λ k d within. refl))
    (All-map passes (reading_fields log.hosts log.clocks) (filter (λ r. r.place == place) log.readings) (λ k d within. refl))

rows-placed : (n : ℕ) (log : Logged) (place : ℕ) (rows : List Row) → All (λ q. names_no_row n q ≡ false) (rows_from log place rows)
rows-placed n log place [] = marks-placed n log place
rows-placed n log place (r ∷ more) =
    let passes = λ (q : Record). names_no_row n q ≡ false in
    All-append passes (marks_at log place) (row_fields log.hosts r ∷ rows_from log (suc place) more) (marks-placed n log place)
    (All-cons passes (row_fields log.hosts r) (rows_from log (suc place) more) (ap (λ o. option_map_or (lacks_row n) o false) (row-bound log.hosts r)) (rows-placed n log (suc place) more))

-- the record of a bound names rows that there are
bound-placed : (n : ℕ) (x : Extra) → n ≤ MAX_ROWS → IsExtra n x → names_no_row n (bound_fields x) ≡ false
bound-placed n x few is =
    let later : nat_le n x.e ≡ false = lt-leb n x.e is.e in
    let earlier : nat_le n x.f ≡ false = lt-leb n x.f is.f in
    let both : lacks_row n x ≡ false = rw (later, earlier) refl in
    ap (λ o. option_map_or (lacks_row n) o false) (bound_in-fields n x few is) ∙ both

all-placed : (log : Logged) → IsLog log → position (names_no_row (length log.rows)) (rest_of log) ≡ None
all-placed log valid =
    let n = length log.rows in
    position-none (names_no_row n) (rest_of log) []
    (rest-passes (λ q. names_no_row n q ≡ false) log (λ h. refl) (λ h. refl) (rows-placed n log 0 log.rows) (λ k d within. bound-placed n _ valid.few_rows (valid.extras k d within)))

no-filter : {X : Type 0} (p : X → Bool) (xs : List X) → list_any p xs ≡ false → filter p xs ≡ []
no-filter p [] none = refl
no-filter p (x ∷ xs) none = go (p x) none (no-filter p xs)
  where
    go : (b : Bool) → (b || list_any p xs) ≡ false → (list_any p xs ≡ false → filter p xs ≡ []) → cond b (x ∷ filter p xs) (filter p xs) ≡ []
    go true h rest = absurd (cc)
    go false h rest = rest h

-- a file of version 1 may have each act that is no pulse
act-known : (a : Act) → is_pulse a ≡ false → known_in version.One (Some (kind.Event (kind_in a))) ≡ Some (kind.Event (kind_in a))
act-known (act.Set name) none = refl
act-known (act.Clear name) none = refl
act-known (act.Send name) none = refl
act-known (act.Recv name) none = refl
act-known (act.Note name) none = refl
act-known (act.Pulse name) none = absurd (cc)

known-rows : (rows : List Row) → list_any has_pulse rows ≡ false → All (IsKnown version.One) rows
known-rows [] none = All-nil (IsKnown version.One)
known-rows (r ∷ rs) none =
    let parts = or_parts (has_pulse r) (list_any has_pulse rs) none in
    All-cons (IsKnown version.One) r rs (act-known r.act parts.0) (known-rows rs parts.1)

module _ (log : Logged) (valid : IsLog log) (plain : IsPlain log) where
  writable : All IsWritable log.hosts
  writable k d within = record { valid = valid.hosts k d within; skew = plain.skews k d within; name = (valid.hosts k d within).called }

  writable_resyncs : All (IsWritableResync (length log.hosts) (length log.rows)) log.resyncs
  writable_resyncs k d within = record { valid = valid.resyncs.each k d within; skew = plain.resyncs k d within }

  declared : AreHosts log.hosts
  declared = record { few = valid.few_hosts; distinct = valid.names; each = writable }

  writable_rows : All (IsOf log.hosts) log.rows
  writable_rows k d within = let row = valid.rows.each k d within in record { host = row.host; local = row.local; name = row.named }

  given : (v : Version) → All (IsKnown v) log.rows → AreRowsOf v log.hosts log.rows
  given v known = record { few = valid.few_rows; sent_once = valid.rows.sent_once; each = writable_rows; known = known }

  -- what the records list before the bounds, and with them
  abbrev Marked : Listing
  Marked = listing (map bare log.hosts) log.rows log.resyncs (stated log.hosts) log.clocks log.readings []

  abbrev Due : Listing
  Due = listing (map bare log.hosts) log.rows log.resyncs (stated log.hosts) log.clocks log.readings log.extras

  -- nothing, before the first record
  abbrev Start : Listing
  Start = listing [] [] [] [] [] [] []

  -- what stands before the row at a place is read
  abbrev ReadsMarks : Version → Type 0
  ReadsMarks v = (rows : List Row)
      → Runs v (rows_listing v log (stated log.hosts) valid.names rows (length rows)) (marks_at log (length rows)) (rows_listing v log (stated log.hosts) valid.names rows (suc (length rows)))

  rows-part : (v : Version) → All (IsKnown v) log.rows → ReadsMarks v → Runs v (listing_of log.hosts log.hosts) (rows_from log 0 log.rows) Marked
  rows-part v known block =
      let run = rows-run v log (stated log.hosts) valid.names block log.rows [] log.rows refl (given v known) in
      let resyncs : resyncs_before log.resyncs (suc (length log.rows)) ≡ log.resyncs = before-all (λ (r : Resync). r.place) log.resyncs (length log.rows) (λ k d within. (valid.resyncs.each k d within).place) in
      let readings : readings_before log.readings (suc (length log.rows)) ≡ log.readings =
      before-all (λ (r : Reading). r.place) log.readings (length log.rows) (λ k d within. (valid.readings.each k d within).place) in
      let count : clocks_read log.readings ≡ length log.clocks = all-clocks (length log.hosts) (length log.rows) (length log.clocks) log.readings valid.readings in
      let clocks : take (clocks_read log.readings) log.clocks ≡ log.clocks = ap (λ n. take n log.clocks) count ∙ take-length log.clocks in
      rw (before-none (λ (r : Resync). r.place) log.resyncs, before-none (λ (r : Reading). r.place) log.readings, resyncs, readings, clocks) at run

  -- the records under the header are read where those of latencies, marks, rows and bounds are
  in-parts : (v : Version) → Runs v (listing_of log.hosts []) (map latency_fields (filter has_latency log.hosts)) (listing_of log.hosts log.hosts) → All (IsKnown v) log.rows → ReadsMarks v
      → Runs v Marked (map bound_fields log.extras) Due → Runs v Start (rest_of log) Due
  in-parts v late known block bounds =
      let declared_fields = map host_fields log.hosts in
      let late_fields = map latency_fields (filter has_latency log.hosts) in
      runs-append v Start Marked Due (declared_fields ++ late_fields ++ rows_from log 0 log.rows) (map bound_fields log.extras)
      (runs-append v Start (listing_of log.hosts log.hosts) Marked (declared_fields ++ late_fields) (rows_from log 0 log.rows)
      (runs-append v Start (listing_of log.hosts []) (listing_of log.hosts log.hosts) declared_fields late_fields (hosts-run v [] log.hosts declared) late) (rows-part v known block)) bounds

  -- the parts of what stands before the row at a place
  marks-part : (v : Version) (rows : List Row)
      → Runs v (rows_listing v log (stated log.hosts) valid.names rows (length rows)) (resyncs_at log.hosts log.resyncs (length rows))
      (listing (map bare log.hosts) rows (resyncs_before log.resyncs (suc (length rows))) (stated log.hosts)
      (take (clocks_read (readings_before log.readings (length rows))) log.clocks) (readings_before log.readings (length rows)) [])
      → Runs v (listing (map bare log.hosts) rows (resyncs_before log.resyncs (suc (length rows))) (stated log.hosts)
      (take (clocks_read (readings_before log.readings (length rows))) log.clocks) (readings_before log.readings (length rows)) [])
      (readings_at log.hosts log.clocks log.readings (length rows))
      (rows_listing v log (stated log.hosts) valid.names rows (suc (length rows)))
      → Runs v (rows_listing v log (stated log.hosts) valid.names rows (length rows)) (marks_at log (length rows)) (rows_listing v log (stated log.hosts) valid.names rows (suc (length rows)))
  marks-part v rows first second =
      runs-append v (rows_listing v log (stated log.hosts) valid.names rows (length rows))
      (listing (map bare log.hosts) rows (resyncs_before log.resyncs (suc (length rows))) (stated log.hosts)
      (take (clocks_read (readings_before log.readings (length rows))) log.clocks) (readings_before log.readings (length rows)) [])
      (rows_listing v log (stated log.hosts) valid.names rows (suc (length rows)))
      (resyncs_at log.hosts log.resyncs (length rows)) (readings_at log.hosts log.clocks log.readings (length rows)) first second

  resyncs-part : (v : Version) → known_in v (Some kind.Resync) ≡ Some kind.Resync → (rows : List Row)
      → Runs v (rows_listing v log (stated log.hosts) valid.names rows (length rows)) (resyncs_at log.hosts log.resyncs (length rows))
      (listing (map bare log.hosts) rows (resyncs_before log.resyncs (suc (length rows))) (stated log.hosts)
      (take (clocks_read (readings_before log.readings (length rows))) log.clocks) (readings_before log.readings (length rows)) [])
  resyncs-part v may rows =
      resyncs-block v may log.hosts (length log.rows) rows (stated log.hosts) (take (clocks_read (readings_before log.readings (length rows))) log.clocks)
      (readings_before log.readings (length rows)) valid.names log.resyncs writable_resyncs valid.resyncs.in_order

  no-readings-part : (v : Version) → log.readings ≡ [] → (rows : List Row)
      → Runs v (listing (map bare log.hosts) rows (resyncs_before log.resyncs (suc (length rows))) (stated log.hosts)
      (take (clocks_read (readings_before log.readings (length rows))) log.clocks) (readings_before log.readings (length rows)) [])
      (readings_at log.hosts log.clocks log.readings (length rows))
      (rows_listing v log (stated log.hosts) valid.names rows (suc (length rows)))
  no-readings-part v none rows =
      rw none (runs-none v (listing (map bare log.hosts) rows (resyncs_before log.resyncs (suc (length rows))) (stated log.hosts) (take 0 log.clocks) [] []))

  no-bounds-part : (v : Version) → log.extras ≡ [] → Runs v Marked (map bound_fields log.extras) Due
  no-bounds-part v none = rw none (runs-none v Marked)

  in-three : Runs version.Three Start (rest_of log) Due
  in-three =
      in-parts version.Three (latencies-run version.Three refl log.hosts [] log.hosts refl declared) (λ k d within. refl)
      (λ rows. marks-part version.Three rows (resyncs-part version.Three refl rows)
      (readings-block version.Three refl log.hosts (length log.rows) rows (resyncs_before log.resyncs (suc (length rows))) (stated log.hosts) log.clocks valid.names valid.clocks log.readings valid.readings))
      (bounds-run version.Three refl Marked (length log.rows) valid.few_rows [] log.extras valid.extras plain.extras)

  in-two : log.readings ≡ [] → log.extras ≡ [] → Runs version.Two Start (rest_of log) Due
  in-two none unbounded =
      in-parts version.Two (latencies-run version.Two refl log.hosts [] log.hosts refl declared) (λ k d within. refl)
      (λ rows. marks-part version.Two rows (resyncs-part version.Two refl rows) (no-readings-part version.Two none rows)) (no-bounds-part version.Two unbounded)

  in-one : log.readings ≡ [] → log.extras ≡ [] → log.resyncs ≡ [] → list_any has_latency log.hosts ≡ false → list_any has_pulse log.rows ≡ false → Runs version.One Start (rest_of log) Due
  in-one unread unbounded none plain_hosts plain_rows =
      let no_latency : filter has_latency log.hosts ≡ [] = no-filter has_latency log.hosts plain_hosts in
      let late : Runs version.One (listing_of log.hosts []) (map latency_fields (filter has_latency log.hosts)) (listing_of log.hosts log.hosts) =
      rw no_latency (runs-none version.One (listing_of log.hosts [])) in
      in-parts version.One late (known-rows log.rows plain_rows)
      (λ rows. marks-part version.One rows
      (rw none (runs-none version.One (listing (map bare log.hosts) rows [] (stated log.hosts) (take (clocks_read (readings_before log.readings (length rows))) log.clocks) (readings_before log.readings (length rows)) [])))
      (no-readings-part version.One unread rows))
      (no-bounds-part version.One unbounded)

  in-version : Runs (version_for log) Start (rest_of log) Due
  in-version = go (length log.readings == 0) (length log.extras == 0) refl refl
    where
      early : log.readings ≡ [] → log.extras ≡ [] → (a b d : Bool) → (length log.resyncs == 0) ≡ a → list_any has_latency log.hosts ≡ b → list_any has_pulse log.rows ≡ d
          → Runs (if a && not b && not d then version.One else version.Two) Start (rest_of log) Due
      early unread unbounded true false false none plain_hosts plain_rows = in-one unread unbounded (nil_from_length log.resyncs (eqb-true _ _ none)) plain_hosts plain_rows
      early unread unbounded true false true none plain_hosts some = in-two unread unbounded
      early unread unbounded true true d none some any = in-two unread unbounded
      early unread unbounded false b d some any other = in-two unread unbounded

      go : (a b : Bool) → (length log.readings == 0) ≡ a → (length log.extras == 0) ≡ b
          → Runs (if not a || not b then version.Three
          else if (length log.resyncs == 0) && not (list_any has_latency log.hosts) && not (list_any has_pulse log.rows) then version.One else version.Two) Start (rest_of log) Due
      go true true unread unbounded =
          early (nil_from_length log.readings (eqb-true _ _ unread)) (nil_from_length log.extras (eqb-true _ _ unbounded)) (length log.resyncs == 0) (list_any has_latency log.hosts)
          (list_any has_pulse log.rows) refl refl refl
      go true false unread some = in-three
      go false b some any = in-three

  -- the listing is that of the log
  back : log_from Due ≡ log
  back =
      ap (λ hosts. (let made : Logged = record { hosts = hosts; rows = log.rows; resyncs = log.resyncs; clocks = log.clocks; readings = log.readings; extras = log.extras } in made))
      (all-delays-back log.hosts valid.names)

header-version : (v : Version) → version_of (header v) ≡ Some v
header-version version.One = refl
header-version version.Two = refl
header-version version.Three = refl

pub texts-read-back : TextsReadBack
texts-read-back log valid plain =
    let rest = rest_of log in
    let run = in-version log valid plain in
    let same = run.lists [] refl in
    ap log_of_records (records-written log valid (writable log valid plain) (writable_resyncs log valid plain) (writable_rows log valid plain))
    ∙ ap (λ o. log_under o rest) (header-version (version_for log))
    ∙ log-is (version_for log) rest (run.clear [] refl) (subst (λ (l : Listing). position (is_unmatched l.rows) rest ≡ None) (sym same) (all-matched log valid))
    (subst (λ (l : Listing). 1 ≤ length l.rows) (sym same) valid.some_rows)
    (subst (λ (l : Listing). position (names_no_row (length l.rows)) rest ≡ None) (sym same) (all-placed log valid))
    ∙ ap Ok (ap log_from same ∙ back log valid plain)
