-- A timing has offsets of the clocks exactly where each two rows of one clock agree, and then the least ones that all rows allow are some.
use Rattle.std.proofs.Common.{◌≡◌, ◌∙◌, refl, sym, ap, arith, ℕ, zero, suc, ◌<◌, ◌==◌, inl, inr, true, false, List, length, Option, Some, None, All, ℤ, pos, ◌≤ℤ◌}
use Rattle.std.specs.Prelude.{option_map, int_le}
use Rattle.std.specs.Option.{option_map_or}
use Rattle.std.proofs.lemmas.Bool.{cases_Bool, cases_eq, eq-eqb, eqb-true}
use Rattle.std.proofs.lemmas.Int.{ints}
use Rattle.std.proofs.lemmas.List.FromFn.{get_or-map-range_with_len, length-map-range_with_len}
use Rattle.mt_model.specs.declared.reading.Reading.{Reading}
use Rattle.mt_model.specs.declared.limits.TheConstants.{MAX_ERROR, MAX_TIME}
use Rattle.mt_model.specs.Clocks.{ClocksAgree, OffsetsByPairs, greater_of, greatest_below, least_offset, offset_at, offsets_of, reads}
use Rattle.mt_model.specs.Log.{IsLog, IsReading, IsWithin, Logged}
use Rattle.mt_model.specs.Timing.{Admissible, AreOffsets, clock_of, error_of, is_read_at, reading_of, time_of}
use Rattle.mt_model.proofs.Resyncs.{last-holds, span-within}

module _ (log : Logged) (valid : IsLog log) where
  -- the reading of a row is one of the log
  pub reading-valid : (e : ℕ) (r : Reading) → reading_of log e ≡ Some r → IsReading (length log.hosts) (length log.rows) (length log.clocks) r
  reading-valid e r found = last-holds (IsReading (length log.hosts) (length log.rows) (length log.clocks)) (is_read_at log e) log.readings r valid.readings.each found

  pub clock-within : (e k : ℕ) → clock_of log e ≡ Some k → k < length log.clocks
  clock-within e k is = go (reading_of log e) refl is
    where
      go : (o : Option Reading) → reading_of log e ≡ o → option_map (λ r. r.clock) o ≡ Some k → k < length log.clocks
      go None found is = absurd (cc)
      go (Some r) found is = let same : r.clock ≡ k = cc in let within = (reading-valid e r found).clock in omega (arith, within, same)

  pub error-within : (e : ℕ) → (pos 0 ≤ℤ error_of log e) × (error_of log e ≤ℤ MAX_ERROR)
  error-within e = go (reading_of log e) refl
    where
      go : (o : Option Reading) → reading_of log e ≡ o → (pos 0 ≤ℤ option_map_or (λ r. r.error) o (pos 0)) × (option_map_or (λ r. r.error) o (pos 0) ≤ℤ MAX_ERROR)
      go None found = (omega (arith, ints), omega (arith, ints))
      go (Some r) found = let reading = reading-valid e r found in (reading.error_low, reading.error_high)

module _ (log : Logged) (k : ℕ) where
  -- row e reads clock k, as a test
  pub reads-then : (e : ℕ) → reads log k e ≡ true → clock_of log e ≡ Some k
  reads-then e is = go (clock_of log e) refl is
    where
      go : (o : Option ℕ) → clock_of log e ≡ o → option_map_or (λ m. k == m) o false ≡ true → clock_of log e ≡ Some k
      go None found is = absurd (cc)
      go (Some m) found is = found ∙ ap Some (sym (eqb-true k m is))

  pub reads-from : (e : ℕ) → clock_of log e ≡ Some k → reads log k e ≡ true
  reads-from e is = rw is (eq-eqb k k refl)

-- a number is not below another and the greatest of some, of which it is one
record IsGreatest (log : Logged) (t : List ℤ) (k n : ℕ) (x : ℤ) : Type 0 where
  row : ℕ
  below : row < n
  clock : clock_of log row ≡ Some k
  same : least_offset log t row ≡ x
  most : (e : ℕ) → e < n → clock_of log e ≡ Some k → least_offset log t e ≤ℤ x

-- what is said of the greatest offset below n
abbrev Tells : Logged → List ℤ → ℕ → ℕ → Option ℤ → Type 0
Tells log t k n (Some x) = IsGreatest log t k n x
Tells log t k n None = (e : ℕ) → e < n → clock_of log e ≡ Some k → ⊥

module _ (log : Logged) (t : List ℤ) (k : ℕ) where
  passed : (n : ℕ) (o : Option ℤ) → reads log k n ≡ false → Tells log t k n o → Tells log t k (suc n) o
  passed n None other_clock none = λ e low is. elim (cases_eq e n) [
    | inl same ↦ let reading = reads-from log k n (rw same at is) in let bad : true ≡ false = sym reading ∙ other_clock in absurd (cc)
    | inr other ↦ none e (omega arith) is
  ]
  passed n (Some x) other_clock tells = record {
    row = tells.row;
    below = let low = tells.below in omega (arith, low);
    clock = tells.clock;
    same = tells.same;
    most = λ e low is. elim (cases_eq e n) [
      | inl same ↦ let reading = reads-from log k n (rw same at is) in let bad : true ≡ false = sym reading ∙ other_clock in absurd (cc)
      | inr other ↦ tells.most e (omega arith) is
    ];
  }

  taken : (n : ℕ) (o : Option ℤ) → reads log k n ≡ true → Tells log t k n o → IsGreatest log t k (suc n) (greater_of o (least_offset log t n))
  taken n None reading none = record {
    row = n;
    below = omega arith;
    clock = reads-then log k n reading;
    same = refl;
    most = λ e low is. elim (cases_eq e n) [
      | inl same ↦ rw same (omega (arith, ints))
      | inr other ↦ absurd (none e (omega arith) is)
    ];
  }
  taken n (Some x) reading tells = elim (cases_Bool (int_le (least_offset log t n) x)) [
    | inl less ↦ rw less (record {
      row = tells.row;
      below = let low = tells.below in omega (arith, low);
      clock = tells.clock;
      same = tells.same;
      most = λ e low is. elim (cases_eq e n) [
        | inl same ↦ rw same (omega (arith, ints, less))
        | inr other ↦ tells.most e (omega arith) is
      ];
    })
    | inr more ↦ rw more (record {
      row = n;
      below = omega arith;
      clock = reads-then log k n reading;
      same = refl;
      most = λ e low is. elim (cases_eq e n) [
        | inl same ↦ rw same (omega (arith, ints))
        | inr other ↦ let least = tells.most e (omega arith) is in omega (arith, ints, least, more)
      ];
    })
  ]

  tells-below : (n : ℕ) → Tells log t k n (greatest_below log t k n)
  tells-below zero = λ e low is. absurd (omega arith)
  tells-below (suc n) = elim (cases_Bool (reads log k n)) [
    | inl reading ↦ rw reading (taken n (greatest_below log t k n) reading (tells-below n))
    | inr other ↦ rw other (passed n (greatest_below log t k n) other (tells-below n))
  ]

module _ (log : Logged) (valid : IsLog log) (t : List ℤ) where
  offset-is : (k : ℕ) → k < length log.clocks → time_of (offsets_of log t) k ≡ offset_at log t k
  offset-is k within = get_or-map-range_with_len (offset_at log t) 0 (length log.clocks) k k (pos 0) within (omega arith)

  -- the greatest least offset of a clock that a row reads
  greatest : (e k : ℕ) → e < length log.rows → clock_of log e ≡ Some k → IsGreatest log t k (length log.rows) (time_of (offsets_of log t) k)
  greatest e k low is = rw (offset-is k (clock-within log valid e k is)) (go (greatest_below log t k (length log.rows)) (tells-below log t k (length log.rows)))
    where
      go : (o : Option ℤ) → Tells log t k (length log.rows) o → IsGreatest log t k (length log.rows) (option_map_or (λ x. x) o (pos 0))
      go None none = absurd (none e low is)
      go (Some x) tells = tells

  pub offsets-from : ClocksAgree log t → AreOffsets log t (offsets_of log t)
  offsets-from agree = record {
    count = length-map-range_with_len (offset_at log t) 0 (length log.clocks);
    under = λ e k low is.
        let most = greatest e k low is in
        let pair = agree most.row e k most.below low most.clock is in
        let same = most.same in
        omega (arith, ints, pair, same);
    over = λ e k low is. let most = (greatest e k low is).most e low is in omega (arith, ints, most);
  }

  pub agree-from : (offsets : List ℤ) → AreOffsets log t offsets → ClocksAgree log t
  agree-from offsets are e f k in-e in-f first second =
      let over = are.over e k in-e first in
      let under = are.under f k in-f second in
      omega (arith, ints, over, under)

  -- the least offsets are as near to 0 as times
  pub offsets-near : Admissible log t → All (IsWithin MAX_TIME) (offsets_of log t)
  offsets-near ok k d below =
      let within : k < length log.clocks = let n = rw (length-map-range_with_len) at below in n in
      rw (get_or-map-range_with_len (offset_at log t) 0 (length log.clocks) k k d within (omega arith)) (near k (greatest_below log t k (length log.rows)) (tells-below log t k (length log.rows)))
    where
      near : (k : ℕ) (o : Option ℤ) → Tells log t k (length log.rows) o → IsWithin MAX_TIME (option_map_or (λ x. x) o (pos 0))
      near k None none = record { low = omega (arith, ints); high = omega (arith, ints) }
      near k (Some x) tells =
          let same = tells.same in
          let low = ok.low tells.row tells.below in
          let high = ok.high tells.row tells.below in
          let skew = (span-within log valid tells.row).skew in
          let error = error-within log valid tells.row in
          record {
            low = omega (arith, ints, same, low, skew.high, error.1);
            high = omega (arith, ints, same, high, skew.high, error.0);
          }

pub by-pairs : OffsetsByPairs
by-pairs log t valid = (
  λ has. agree-from log valid t has.offsets has.are,
  λ agree. record { offsets = offsets_of log t; are = offsets-from log valid t agree },
)
