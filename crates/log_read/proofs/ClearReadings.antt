-- The records of the readings of a log's text pass each test, and give the readings and the clocks back in order.
use Rattle.std.proofs.Common.{◌≡◌, ◌∙◌, sym, ap, refl, arith, ℕ, suc, ◌<◌, ◌≤◌, ◌==◌, max, inl, inr, true, false, List, [], ◌∷◌, ◌++◌, length, get_or, take, map, Some, None, append_assoc}
use Rattle.std.specs.Prelude.{All, filter, is_none, nat_le, nat_lt, option_to_list, bytes_eq, ◌&&◌}
use Rattle.std.proofs.Math.Seq.{take-suc}
use Rattle.std.proofs.lemmas.Bool.{cases_eq, eqb-true, false_from_ne_true, lt-leb}
use Rattle.std.proofs.lemmas.Int.{ints}
use Rattle.std.proofs.lemmas.List.{append-nil, get_or-take, get_or_default, length-take-le}
use Rattle.std.proofs.lemmas.List.Elements.{All-filter, All-head, All-tail}
use Rattle.std.proofs.lemmas.Option.{slice_get-get_or}
use Rattle.std.proofs.lemmas.Slice.Eq.{bytes_eq-Decides}
use Rattle.mt_model.specs.declared.log.Host.{Host}
use Rattle.mt_model.specs.declared.log.Row.{Row}
use Rattle.mt_model.specs.declared.reading.Reading.{Reading}
use Rattle.mt_model.specs.declared.resync.Resync.{Resync}
use Rattle.mt_model.specs.declared.limits.TheConstants.{MAX_CLOCKS, MAX_ERROR}
use Rattle.mt_model.specs.Log.{AreClockNames, AreReadings, IsReading}
use Rattle.mt_model.specs.Name.{is_name}
use Rattle.decimal.proofs.Printed.{number-printed}
use Rattle.log_read.specs.declared.kind.Kind.TheVariants as kind
use Rattle.log_read.specs.declared.latency.Latency.{Latency}
use Rattle.log_read.specs.declared.version.Version.{Version}
use Rattle.log_read.specs.LogOf.{fault_of, known_in}
use Rattle.log_read.specs.LogText.{clock_name, reading_fields, readings_at}
use Rattle.log_read.specs.Reading.{with_record}
use Rattle.log_read.specs.Records.{Listing, clock_named, new_clock, place_of_clock, reading_in}
use Rattle.log_read.proofs.Listing.{listing, same-listing}
use Rattle.log_read.proofs.Middles.{position-found, position-none}
use Rattle.log_read.proofs.Places.{filter-passes, front-more, front-rest, placed_before}
use Rattle.log_read.proofs.ReadClocks.{AreTurned, clocks_read, clocks_read-few, clocks_read-push, turned, turned-front, turned-here}
use Rattle.log_read.proofs.Runs.{Runs, runs-cons, runs-none}
use Rattle.log_read.proofs.WrittenRecords.{AreDistinct, bare, place-bare}

-- the readings before a place
abbrev pub readings_before : List Reading → ℕ → List Reading
readings_before rs n = placed_before (λ (r : Reading). r.place) rs n

module _ (clocks : List (List ℕ)) (names : AreClockNames clocks) where
  name-is : (k : ℕ) → k < length clocks → clock_name clocks k ≡ get_or clocks k []
  name-is k within = rw (slice_get-get_or clocks k [] within) refl

  pub clock_name-is_name : (k : ℕ) → k < length clocks → is_name (clock_name clocks k) ≡ true
  clock_name-is_name k within = rw (name-is k within) (names.named k [] within)

  other-name : (j k : ℕ) → j < k → k < length clocks → bytes_eq (get_or clocks j []) (clock_name clocks k) ≡ false
  other-name j k before within =
      false_from_ne_true (bytes_eq (get_or clocks j []) (clock_name clocks k))
      (λ same. names.apart j k [] before within (sym ((bytes_eq-Decides (get_or clocks j []) (clock_name clocks k)).0 same ∙ name-is k within)))

  -- a clock is found by its name among the first n, where it is one of them
  clock-found : (n k : ℕ) → k < n → n ≤ length clocks → place_of_clock (take n clocks) (clock_name clocks k) ≡ Some k
  clock-found n k low high =
      let size : length (take n clocks) ≡ n = length-take-le n clocks high in
      position-found (λ m. bytes_eq m (clock_name clocks k)) (take n clocks) k [] (omega (arith, size, low))
      (λ j before. rw (get_or-take n clocks j [] (let less : j < n = omega (arith, before, low) in less)) (other-name j k before (omega (arith, low, high))))
      (rw (get_or-take n clocks k [] low) ((bytes_eq-Decides (get_or clocks k []) (clock_name clocks k)).1 (sym (name-is k (omega (arith, low, high))))))

  -- and else it is a new one
  clock-new : (k : ℕ) → k < length clocks → place_of_clock (take k clocks) (clock_name clocks k) ≡ None
  clock-new k within =
      let size : length (take k clocks) ≡ k = length-take-le k clocks (omega (arith, within)) in
      position-none (λ m. bytes_eq m (clock_name clocks k)) (take k clocks) []
      (λ j d below.
      let less : j < k = omega (arith, size, below) in
      let at : get_or (take k clocks) j d ≡ get_or clocks j [] = get_or-take k clocks j d less ∙ get_or_default clocks j d [] (omega (arith, less, within)) in
      rw at (other-name j k less within))

  module _ (n k : ℕ) (turn : k ≤ n) (within : k < length clocks) (few : n ≤ length clocks) where
    clock-room : (is_none (place_of_clock (take n clocks) (clock_name clocks k)) && nat_le MAX_CLOCKS (length (take n clocks))) ≡ false
    clock-room = elim (cases_eq k n) [
      | inl same ↦
          let new : place_of_clock (take n clocks) (clock_name clocks k) ≡ None = ap (λ m. place_of_clock (take m clocks) (clock_name clocks k)) (sym same) ∙ clock-new k within in
          let size = length-take-le n clocks few in
          let most = names.few in
          let room : nat_le MAX_CLOCKS (length (take n clocks)) ≡ false = lt-leb MAX_CLOCKS (length (take n clocks)) (omega (arith, size, same, within, most)) in
          rw new room
      | inr other ↦ let found = clock-found n k (omega (arith, turn, other)) few in rw found refl
    ]

    clock-same : clock_named (take n clocks) (clock_name clocks k) ≡ k
    clock-same = elim (cases_eq k n) [
      | inl same ↦
          let new : place_of_clock (take n clocks) (clock_name clocks k) ≡ None = ap (λ m. place_of_clock (take m clocks) (clock_name clocks k)) (sym same) ∙ clock-new k within in
          let size = length-take-le n clocks few in
          rw new (size ∙ sym same)
      | inr other ↦ let found = clock-found n k (omega (arith, turn, other)) few in rw found refl
    ]

    clock-more : take n clocks ++ option_to_list (new_clock (take n clocks) (clock_name clocks k)) ≡ take (max n (suc k)) clocks
    clock-more = elim (cases_eq k n) [
      | inl same ↦
          let new : place_of_clock (take n clocks) (clock_name clocks k) ≡ None = ap (λ m. place_of_clock (take m clocks) (clock_name clocks k)) (sym same) ∙ clock-new k within in
          let next : max n (suc k) ≡ suc k = omega (arith, same) in
          rw (new, next) (ap (λ m. take m clocks ++ clock_name clocks k ∷ []) (sym same) ∙ ap (λ m. take k clocks ++ m ∷ []) (name-is k within) ∙ sym (take-suc clocks k [] within))
      | inr other ↦
          let found = clock-found n k (omega (arith, turn, other)) few in
          let kept : max n (suc k) ≡ n = omega (arith, turn, other) in
          rw (found, kept) (append-nil (take n clocks))
    ]

module _ (v : Version) (known : known_in v (Some kind.Clock) ≡ Some kind.Clock) (hosts : List Host) (rows : ℕ) (given : List Row) (resyncs : List Resync) (latencies : List Latency)
    (clocks : List (List ℕ)) (distinct : AreDistinct hosts) (names : AreClockNames clocks) where
  -- after so many readings
  abbrev readings_listing : List Reading → Listing
  readings_listing done = listing (map bare hosts) given resyncs latencies (take (clocks_read done) clocks) done []

  module _ (done : List Reading) (r : Reading) (is : IsReading (length hosts) rows (length clocks) r) (at : r.place ≡ length given) (turn : r.clock ≤ clocks_read done)
      (few : clocks_read done ≤ length clocks) where
    read : reading_in (map bare hosts) (take (clocks_read done) clocks) (length given) (reading_fields hosts clocks r) ≡ Some r
    read =
        let error = number-printed MAX_ERROR r.error (omega (arith, ints)) is.error_low is.error_high in
        let clock = clock-same clocks names (clocks_read done) r.clock turn is.clock few in
        let made = λ (n k : ℕ). (let o : Reading = record { place = n; host = r.host; error = r.error; clock = k } in o) in
        rw (place-bare hosts r.host distinct is.host, error)
        (ap (λ n. Some (made n (clock_named (take (clocks_read done) clocks) (clock_name clocks r.clock)))) (sym at) ∙ ap (λ k. Some (made r.place k)) clock)

    reading-clear : (place : ℕ) → fault_of v place (readings_listing done) (reading_fields hosts clocks r) ≡ None
    reading-clear place =
        let error = number-printed MAX_ERROR r.error (omega (arith, ints)) is.error_low is.error_high in
        let room = clock-room clocks names (clocks_read done) r.clock turn is.clock few in
        rw (known, place-bare hosts r.host distinct is.host, error, clock_name-is_name clocks names r.clock is.clock, room) refl

    reading-step : with_record (readings_listing done) (reading_fields hosts clocks r) ≡ readings_listing (done ++ r ∷ [])
    reading-step =
        same-listing (append-nil (map bare hosts)) (append-nil given) (append-nil resyncs) (append-nil latencies)
        (clock-more clocks names (clocks_read done) r.clock turn is.clock few ∙ ap (λ n. take n clocks) (sym (clocks_read-push done r)))
        (ap (λ o. done ++ option_to_list o) read) refl

  -- the records of readings at one place are read as the readings
  readings-run : (done xs : List Reading) → All (IsReading (length hosts) rows (length clocks)) xs → All (λ r. r.place ≡ length given) xs → AreTurned (done ++ xs)
      → clocks_read done ≤ length clocks
      → Runs v (readings_listing done) (map (reading_fields hosts clocks) xs) (readings_listing (done ++ xs))
  readings-run done [] each at turn few = rw (append-nil done) (runs-none v (readings_listing done))
  readings-run done (r ∷ rs) each at turn few =
      let here = All-head (IsReading (length hosts) rows (length clocks)) r rs each in
      let place = All-head (λ r. r.place ≡ length given) r rs at in
      let next = turned-here done r rs turn in
      let clock = here.clock in
      let count = clocks_read-push done r in
      let still : clocks_read (done ++ r ∷ []) ≤ length clocks = omega (arith, count, few, clock) in
      let more =
      readings-run (done ++ r ∷ []) rs (All-tail (IsReading (length hosts) rows (length clocks)) r rs each) (All-tail (λ r. r.place ≡ length given) r rs at)
      (rw (append_assoc done (r ∷ []) rs) turn) still in
      let rest = rw (append_assoc done (r ∷ []) rs) at more in
      runs-cons v (readings_listing done) (readings_listing (done ++ r ∷ [])) (readings_listing (done ++ r ∷ rs)) (reading_fields hosts clocks r)
      (map (reading_fields hosts clocks) rs) (reading-clear done r here place next few) (reading-step done r here place next few) rest

  -- the readings at the place of the next row are read
  pub readings-block : (rs : List Reading) → AreReadings (length hosts) rows (length clocks) rs
      → Runs v (listing (map bare hosts) given resyncs latencies (take (clocks_read (readings_before rs (length given))) clocks) (readings_before rs (length given)) [])
      (readings_at hosts clocks rs (length given))
      (listing (map bare hosts) given resyncs latencies (take (clocks_read (readings_before rs (suc (length given)))) clocks) (readings_before rs (suc (length given))) [])
  readings-block rs are =
      let place = λ (r : Reading). r.place in
      let n = length given in
      let at = λ (r : Reading). r.place == n in
      let passes = filter-passes at rs in
      let more : readings_before rs n ++ filter at rs ≡ readings_before rs (suc n) = front-more place rs n are.in_order in
      let all : readings_before rs (suc n) ++ filter (λ r. nat_le (suc n) r.place) rs ≡ rs = front-rest place rs (suc n) are.in_order in
      let turn : AreTurned (readings_before rs (suc n)) = turned-front (readings_before rs (suc n)) (filter (λ r. nat_le (suc n) r.place) rs) (rw all (turned rs are.in_turn)) in
      let few : clocks_read (readings_before rs n) ≤ length clocks =
      clocks_read-few (readings_before rs n) (length clocks) (All-filter (λ (r : Reading). nat_lt r.place n) (λ r. r.clock < length clocks) rs (λ k d within. (are.each k d within).clock)) in
      let run =
      readings-run (readings_before rs n) (filter at rs) (All-filter at (IsReading (length hosts) rows (length clocks)) rs are.each)
      (λ k d within. eqb-true _ _ (passes k d within)) (rw more turn) few in
      rw more at run
