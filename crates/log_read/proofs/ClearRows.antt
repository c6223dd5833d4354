-- The records of the rows of a log's text pass each test.
use Rattle.std.proofs.Common.{◌≡◌, ◌∙◌, sym, ap, refl, arith, ℕ, suc, ◌+◌, ◌≤◌, Bool, false, List, [], ◌∷◌, ◌++◌, length, length-append, map, take, Option, Some, None, append_assoc}
use Rattle.std.specs.Prelude.{All, AllPairs, if◌then◌else◌, is_none, nat_le, not, option_to_list}
use Rattle.std.specs.Fmt.{signed_decimal}
use Rattle.std.proofs.lemmas.Bool.{false_from_ne_true}
use Rattle.std.proofs.lemmas.Bool.Decides.{nat_tests}
use Rattle.std.proofs.lemmas.Int.{ints}
use Rattle.std.proofs.lemmas.List.{append-nil}
use Rattle.std.proofs.lemmas.List.Folds.{list_any_none}
use Rattle.mt_model.specs.declared.log.Act.{Act}
use Rattle.mt_model.specs.declared.log.Act.TheVariants as act
use Rattle.mt_model.specs.declared.log.Host.{Host}
use Rattle.mt_model.specs.declared.log.Row.{Row}
use Rattle.mt_model.specs.declared.limits.TheConstants.{MAX_ROWS, MAX_LOCAL}
use Rattle.mt_model.specs.declared.log.Extra.{Extra}
use Rattle.mt_model.specs.declared.reading.Reading.{Reading}
use Rattle.mt_model.specs.Log.{Logged, SendSame, sent_by, name_in}
use Rattle.mt_model.specs.Timing.{is_send_of}
use Rattle.log_read.specs.declared.fault.LogFault.{LogFault}
use Rattle.decimal.specs.Numbers.{signed_up_to}
use Rattle.mt_model.specs.declared.resync.Resync.{Resync}
use Rattle.log_read.specs.declared.latency.Latency.{Latency}
use Rattle.log_read.specs.declared.version.Version.{Version}
use Rattle.log_read.specs.Reading.{with_record}
use Rattle.log_read.specs.Records.{Listing, bound_in, clock_in, host_in, latency_in, place_of_host, reading_in, resync_in}
use Rattle.log_read.specs.declared.kind.Kind.TheVariants as kind
use Rattle.log_read.specs.LogOf.{fault_of, known_in, sends_again}
use Rattle.log_read.specs.LogText.{host_name, marks_at, row_fields, rows_from}
use Rattle.log_read.proofs.FirstFaults.{sent_by-is}
use Rattle.log_read.proofs.Middles.{All-middle, AllPairs-middle}
use Rattle.decimal.proofs.Printed.{signed-printed}
use Rattle.log_read.proofs.ClearReadings.{readings_before}
use Rattle.log_read.proofs.ClearResyncs.{resyncs_before}
use Rattle.log_read.proofs.Listing.{listing, same-listing}
use Rattle.log_read.proofs.ReadClocks.{clocks_read}
use Rattle.log_read.proofs.Runs.{Runs, runs-append, runs-cons}
use Rattle.log_read.proofs.WrittenRecords.{AreDistinct, IsOf, bare, kind_in, kind_of-word, place-bare, row_in-bare}

not-more : {X : Type 0} (xs : List X) (o : Option X) → o ≡ None → xs ++ option_to_list o ≡ xs
not-more xs o none = ap (λ p. xs ++ option_to_list p) none ∙ append-nil xs

-- where each of the tests passes, there is no fault
five_clear : (a b c d e : Bool) (v w x y z : LogFault) → a ≡ false → b ≡ false → c ≡ false → d ≡ false → e ≡ false
    → (if a then Some v else if b then Some w else if c then Some x else if d then Some y else if e then Some z else None) ≡ None
five_clear a b c d e v w x y z p q r s t = rw (p, q, r, s, t) refl

-- the act of a row is of a kind that a file of the version may have
abbrev pub IsKnown : Version → Row → Type 0
IsKnown v r = known_in v (Some (kind.Event (kind_in r.act))) ≡ Some (kind.Event (kind_in r.act))

-- rows of these hosts that a text of the version can state together
pub record AreRowsOf (v : Version) (hosts : List Host) (rows : List Row) : Type 0 where
  pub few : length rows ≤ MAX_ROWS
  pub sent_once : AllPairs (λ q r. SendSame q r → ⊥) rows
  pub each : All (IsOf hosts) rows
  pub known : All (IsKnown v) rows

-- a message that is sent once isn't sent before
not_again : (before : List Row) (r : Row) (a : Act) → r.act ≡ a → All (λ q. SendSame q r → ⊥) before → sends_again (kind_in a) before (name_in a) ≡ false
not_again before r (act.Send m) is others =
    list_any_none (is_send_of m) before
    (λ k d within. false_from_ne_true _ (λ same. others k d within (record { message = m; first = sent_by-is m (sent_by _) same; second = ap sent_by is })))
not_again before r (act.Set name) is others = refl
not_again before r (act.Clear name) is others = refl
not_again before r (act.Recv name) is others = refl
not_again before r (act.Note name) is others = refl
not_again before r (act.Pulse name) is others = refl

module _ (v : Version) (hosts : List Host) (latencies : List Latency) (distinct : AreDistinct hosts) (before : List Row) (r : Row) (after : List Row) (rows : AreRowsOf v hosts (before ++ r ∷ after))
    (resyncs : List Resync) (clocks : List (List ℕ)) (readings : List Reading) where
  -- the record of a row has no fault
  row-clear : (place : ℕ) → fault_of v place (listing (map bare hosts) before resyncs latencies clocks readings []) (row_fields hosts r) ≡ None
  row-clear place =
      let is = All-middle (IsOf hosts) before r after rows.each in
      let once = not_again before r r.act refl (AllPairs-middle (λ q p. SendSame q p → ⊥) before r after rows.sent_once) in
      let room : nat_le MAX_ROWS (length before) ≡ false = let few = rows.few in grind (arith, nat_tests, length-append before (r ∷ after)) in
      let known : is_none (place_of_host (map bare hosts) (host_name hosts r.host)) ≡ false = ap is_none (place-bare hosts r.host distinct is.host) in
      let timed : is_none (signed_up_to MAX_LOCAL (signed_decimal r.local)) ≡ false = ap is_none (signed-printed MAX_LOCAL r.local (omega (arith, ints)) is.local.low is.local.high) in
      let kind_known = All-middle (IsKnown v) before r after rows.known in
      rw (kind_of-word r.act, kind_known) (five_clear _ _ _ _ _ _ _ _ _ _ known timed (ap not is.name) once room)

  -- and gives it
  row-step : with_record (listing (map bare hosts) before resyncs latencies clocks readings []) (row_fields hosts r) ≡ listing (map bare hosts) (before ++ r ∷ []) resyncs latencies clocks readings []
  row-step =
      let is = All-middle (IsOf hosts) before r after rows.each in
      let host : host_in (row_fields hosts r) ≡ None = rw (kind_of-word r.act) refl in
      let resync : resync_in (map bare hosts) (length before) (row_fields hosts r) ≡ None = rw (kind_of-word r.act) refl in
      let latency : latency_in (row_fields hosts r) ≡ None = rw (kind_of-word r.act) refl in
      let clock : clock_in clocks (row_fields hosts r) ≡ None = rw (kind_of-word r.act) refl in
      let reading : reading_in (map bare hosts) clocks (length before) (row_fields hosts r) ≡ None = rw (kind_of-word r.act) refl in
      let bound : bound_in (row_fields hosts r) ≡ None = rw (kind_of-word r.act) refl in
      let none : List Extra = [] in
      same-listing (not-more (map bare hosts) _ host) (ap (λ o. before ++ option_to_list o) (row_in-bare hosts r distinct is)) (not-more resyncs _ resync)
      (not-more latencies _ latency) (not-more clocks _ clock) (not-more readings _ reading) (not-more none _ bound)

-- the record of a row states no bound
pub row-bound : (hosts : List Host) (r : Row) → bound_in (row_fields hosts r) ≡ None
row-bound hosts r = rw (kind_of-word r.act) refl

module _ (v : Version) (log : Logged) (latencies : List Latency) (distinct : AreDistinct log.hosts) where
  -- after so many rows, and the resyncs and readings before a place
  abbrev pub rows_listing : List Row → ℕ → Listing
  rows_listing rows n =
      listing (map bare log.hosts) rows (resyncs_before log.resyncs n) latencies (take (clocks_read (readings_before log.readings n)) log.clocks) (readings_before log.readings n) []

  -- the records of rows, with the resyncs and readings between them, are read as all three
  pub
      rows-run : ((given : List Row) → Runs v (rows_listing given (length given)) (marks_at log (length given)) (rows_listing given (suc (length given))))
      → (rows before after : List Row) → before ++ after ≡ rows → AreRowsOf v log.hosts rows
      → Runs v (rows_listing before (length before)) (rows_from log (length before) after) (rows_listing rows (suc (length rows)))
  rows-run block rows before [] split are = let same : before ≡ rows = sym (append-nil before) ∙ split in rw same (block rows)
  rows-run block rows before (r ∷ more) split are =
      let parts : AreRowsOf v log.hosts (before ++ r ∷ more) = rw split are in
      let count : length (before ++ r ∷ []) ≡ suc (length before) = length-append before (r ∷ []) ∙ (let one : length before + 1 ≡ suc (length before) = omega arith in one) in
      let rest = rw count at (rows-run block rows (before ++ r ∷ []) more (append_assoc before (r ∷ []) more ∙ split) are) in
      let n = suc (length before) in
      let resyncs = resyncs_before log.resyncs n in
      let clocks = take (clocks_read (readings_before log.readings n)) log.clocks in
      let readings = readings_before log.readings n in
      runs-append v (rows_listing before (length before)) (rows_listing before n) (rows_listing rows (suc (length rows))) (marks_at log (length before))
      (row_fields log.hosts r ∷ rows_from log n more) (block before)
      (runs-cons v (rows_listing before n) (rows_listing (before ++ r ∷ []) n) (rows_listing rows (suc (length rows))) (row_fields log.hosts r) (rows_from log n more)
      (row-clear v log.hosts latencies distinct before r more parts resyncs clocks readings) (row-step v log.hosts latencies distinct before r more parts resyncs clocks readings) rest)
