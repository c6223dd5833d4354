-- The records of the resyncs of a log's text pass each test, and give the resyncs back in order.
use Rattle.std.proofs.Common.{◌≡◌, sym, ap, refl, arith, ℕ, suc, ◌≤◌, ◌==◌, List, [], ◌∷◌, ◌++◌, length, map, Some, None, append_assoc, ◌≤ℤ◌}
use Rattle.std.specs.Prelude.{All, AllPairs, filter, option_to_list}
use Rattle.std.proofs.lemmas.Bool.{eqb-true}
use Rattle.std.proofs.lemmas.Int.{ints}
use Rattle.std.proofs.lemmas.List.{append-nil}
use Rattle.std.proofs.lemmas.List.Elements.{All-filter, All-head, All-tail}
use Rattle.mt_model.specs.declared.log.Host.{Host}
use Rattle.mt_model.specs.declared.log.Row.{Row}
use Rattle.mt_model.specs.declared.reading.Reading.{Reading}
use Rattle.mt_model.specs.declared.resync.Resync.{Resync}
use Rattle.mt_model.specs.declared.limits.TheConstants.{MAX_GAP, MAX_WRITTEN_SKEW}
use Rattle.mt_model.specs.Log.{IsResync}
use Rattle.decimal.proofs.Printed.{number-printed}
use Rattle.log_read.specs.declared.kind.Kind.TheVariants as kind
use Rattle.log_read.specs.declared.latency.Latency.{Latency}
use Rattle.log_read.specs.declared.version.Version.{Version}
use Rattle.log_read.specs.LogOf.{fault_of, known_in}
use Rattle.log_read.specs.LogText.{resync_fields, resyncs_at}
use Rattle.log_read.specs.Reading.{with_record}
use Rattle.log_read.specs.Records.{Listing, resync_in}
use Rattle.log_read.proofs.Listing.{listing, same-listing}
use Rattle.log_read.proofs.Places.{filter-passes, front-more, placed_before}
use Rattle.log_read.proofs.Runs.{Runs, runs-cons, runs-none}
use Rattle.log_read.proofs.WrittenRecords.{AreDistinct, bare, place-bare}

-- a resync that a text can state
pub record IsWritableResync (hosts rows : ℕ) (r : Resync) : Type 0 where
  pub valid : IsResync hosts rows r
  pub skew : r.skew ≤ℤ MAX_WRITTEN_SKEW

-- the resyncs before a place
abbrev pub resyncs_before : List Resync → ℕ → List Resync
resyncs_before rs n = placed_before (λ (r : Resync). r.place) rs n

module _ (v : Version) (known : known_in v (Some kind.Resync) ≡ Some kind.Resync) (hosts : List Host) (rows : ℕ) (given : List Row) (latencies : List Latency)
    (clocks : List (List ℕ)) (readings : List Reading) (distinct : AreDistinct hosts) where
  -- after so many resyncs
  abbrev resyncs_listing : List Resync → Listing
  resyncs_listing done = listing (map bare hosts) given done latencies clocks readings []

  module _ (r : Resync) (is : IsWritableResync (length hosts) rows r) (at : r.place ≡ length given) where
    -- its record gives it
    read : resync_in (map bare hosts) (length given) (resync_fields hosts r) ≡ Some r
    read =
        let skew = number-printed MAX_WRITTEN_SKEW r.skew (omega (arith, ints)) is.valid.skew_low is.skew in
        let gap = number-printed MAX_GAP r.gap (omega (arith, ints)) is.valid.gap_low is.valid.gap_high in
        let made = λ (n : ℕ). (let o : Resync = record { place = n; host = r.host; skew = r.skew; gap = r.gap } in o) in
        rw (place-bare hosts r.host distinct is.valid.host, skew, gap) (ap (λ n. Some (made n)) (sym at))

    resync-clear : (done : List Resync) (place : ℕ) → fault_of v place (resyncs_listing done) (resync_fields hosts r) ≡ None
    resync-clear done place =
        let skew = number-printed MAX_WRITTEN_SKEW r.skew (omega (arith, ints)) is.valid.skew_low is.skew in
        let gap = number-printed MAX_GAP r.gap (omega (arith, ints)) is.valid.gap_low is.valid.gap_high in
        rw (known, place-bare hosts r.host distinct is.valid.host, skew, gap) refl

    resync-step : (done : List Resync) → with_record (resyncs_listing done) (resync_fields hosts r) ≡ resyncs_listing (done ++ r ∷ [])
    resync-step done =
        same-listing (append-nil (map bare hosts)) (append-nil given) (ap (λ o. done ++ option_to_list o) read) (append-nil latencies) (append-nil clocks) (append-nil readings) refl

  -- the records of resyncs at one place are read as the resyncs
  resyncs-run : (done xs : List Resync) → All (IsWritableResync (length hosts) rows) xs → All (λ r. r.place ≡ length given) xs
      → Runs v (resyncs_listing done) (map (resync_fields hosts) xs) (resyncs_listing (done ++ xs))
  resyncs-run done [] each at = rw (append-nil done) (runs-none v (resyncs_listing done))
  resyncs-run done (r ∷ rs) each at =
      let here = All-head (IsWritableResync (length hosts) rows) r rs each in
      let place = All-head (λ r. r.place ≡ length given) r rs at in
      let more = resyncs-run (done ++ r ∷ []) rs (All-tail (IsWritableResync (length hosts) rows) r rs each) (All-tail (λ r. r.place ≡ length given) r rs at) in
      let rest = rw (append_assoc done (r ∷ []) rs) at more in
      runs-cons v (resyncs_listing done) (resyncs_listing (done ++ r ∷ [])) (resyncs_listing (done ++ r ∷ rs)) (resync_fields hosts r)
      (map (resync_fields hosts) rs) (resync-clear r here place done) (resync-step r here place done) rest

  -- the resyncs at the place of the next row are read
  pub resyncs-block : (rs : List Resync) → All (IsWritableResync (length hosts) rows) rs → AllPairs (λ q r. q.place ≤ r.place) rs
      → Runs v (listing (map bare hosts) given (resyncs_before rs (length given)) latencies clocks readings [])
      (resyncs_at hosts rs (length given))
      (listing (map bare hosts) given (resyncs_before rs (suc (length given))) latencies clocks readings [])
  resyncs-block rs each order =
      let at = λ (r : Resync). r.place == length given in
      let passes = filter-passes at rs in
      let run =
      resyncs-run (resyncs_before rs (length given)) (filter at rs)
      (All-filter at (IsWritableResync (length hosts) rows) rs each) (λ k d within. eqb-true _ _ (passes k d within)) in
      rw (front-more (λ (r : Resync). r.place) rs (length given) order) at run
