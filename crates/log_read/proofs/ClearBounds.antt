-- The records of the extra bounds of a log's text pass each test, and give the bounds back in order.
use Rattle.std.proofs.Common.{◌≡◌, ap, refl, arith, ℕ, ◌<◌, ◌≤◌, ◌^◌, ◌==◌, false, List, [], ◌∷◌, ◌++◌, length, length-append, map, Some, None, append_assoc}
use Rattle.std.specs.Prelude.{All, nat_le, option_to_list}
use Rattle.std.specs.Fmt.{decimal}
use Rattle.std.proofs.lemmas.Bool.{lt-leb, ne_eqb}
use Rattle.std.proofs.lemmas.Int.{ints}
use Rattle.std.proofs.lemmas.List.{append-nil}
use Rattle.std.proofs.lemmas.List.Elements.{All-head, All-tail}
use Rattle.mt_model.specs.declared.log.Extra.{Extra}
use Rattle.mt_model.specs.declared.limits.TheConstants.{MAX_EXTRA, MAX_ROWS, MAX_WRITTEN_EXTRAS}
use Rattle.mt_model.specs.Log.{IsExtra}
use Rattle.decimal.proofs.Printed.{number-below-printed, signed-printed}
use Rattle.log_read.specs.declared.kind.Kind.TheVariants as kind
use Rattle.log_read.specs.declared.version.Version.{Version}
use Rattle.log_read.specs.LogOf.{fault_of, known_in}
use Rattle.log_read.specs.LogText.{bound_fields}
use Rattle.log_read.specs.Reading.{with_record}
use Rattle.log_read.specs.Records.{Listing, bound_in, row_number}
use Rattle.log_read.proofs.Listing.{listing, same-listing}
use Rattle.log_read.proofs.Runs.{Runs, runs-cons, runs-none}

-- the number of a row that was printed is read as it was
row-printed : (n : ℕ) → n < 2 ^ 32 → row_number (decimal n) ≡ Some n
row-printed n low = number-below-printed (2 ^ 32) n (omega arith) (omega (arith, low))

-- the record of a bound states it
pub bound_in-fields : (rows : ℕ) (x : Extra) → rows ≤ MAX_ROWS → IsExtra rows x → bound_in (bound_fields x) ≡ Some x
bound_in-fields rows x few is =
    let later = row-printed x.e (let low = is.e in omega (arith, low, few)) in
    let earlier = row-printed x.f (let low = is.f in omega (arith, low, few)) in
    let most = signed-printed MAX_EXTRA x.c (omega (arith, ints)) is.bound.low is.bound.high in
    rw (later, earlier, most) refl

module _ (v : Version) (known : known_in v (Some kind.Bound) ≡ Some kind.Bound) (l : Listing) (rows : ℕ) (few : rows ≤ MAX_ROWS) where
  -- after so many bounds
  abbrev bounds_listing : List Extra → Listing
  bounds_listing done = listing l.hosts l.rows l.resyncs l.latencies l.clocks l.readings done

  module _ (done : List Extra) (x : Extra) (is : IsExtra rows x) (room : length done < MAX_WRITTEN_EXTRAS) where
    bound-clear : (place : ℕ) → fault_of v place (bounds_listing done) (bound_fields x) ≡ None
    bound-clear place =
        let later = row-printed x.e (let low = is.e in omega (arith, low, few)) in
        let earlier = row-printed x.f (let low = is.f in omega (arith, low, few)) in
        let most = signed-printed MAX_EXTRA x.c (omega (arith, ints)) is.bound.low is.bound.high in
        let other : (x.e == x.f) ≡ false = ne_eqb x.e x.f is.apart in
        let free : nat_le MAX_WRITTEN_EXTRAS (length done) ≡ false = lt-leb MAX_WRITTEN_EXTRAS (length done) room in
        rw (known, later, earlier, most, other, free) refl

    bound-step : with_record (bounds_listing done) (bound_fields x) ≡ bounds_listing (done ++ x ∷ [])
    bound-step =
        same-listing (append-nil l.hosts) (append-nil l.rows) (append-nil l.resyncs) (append-nil l.latencies) (append-nil l.clocks) (append-nil l.readings)
        (ap (λ o. done ++ option_to_list o) (bound_in-fields rows x few is))

  -- the records of bounds are read as the bounds
  pub bounds-run : (done xs : List Extra) → All (IsExtra rows) xs → length (done ++ xs) ≤ MAX_WRITTEN_EXTRAS
      → Runs v (listing l.hosts l.rows l.resyncs l.latencies l.clocks l.readings done) (map bound_fields xs) (listing l.hosts l.rows l.resyncs l.latencies l.clocks l.readings (done ++ xs))
  bounds-run done [] each most = rw (append-nil done) (runs-none v (bounds_listing done))
  bounds-run done (x ∷ xs) each most =
      let here = All-head (IsExtra rows) x xs each in
      let sum = length-append done (x ∷ xs) in
      let room : length done < MAX_WRITTEN_EXTRAS = omega (arith, sum, most) in
      let more = bounds-run (done ++ x ∷ []) xs (All-tail (IsExtra rows) x xs each) (rw (append_assoc done (x ∷ []) xs) most) in
      let rest = rw (append_assoc done (x ∷ []) xs) at more in
      runs-cons v (bounds_listing done) (bounds_listing (done ++ x ∷ [])) (bounds_listing (done ++ x ∷ xs)) (bound_fields x) (map bound_fields xs)
      (bound-clear done x here room) (bound-step done x here room) rest
