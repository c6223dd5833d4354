-- The readings of a log's rows, row by row.
use Rattle.std.proofs.Common.{◌≡◌, ◌∙◌, refl, sym, ap, arith, ℕ, suc, ◌+◌, ◌==◌, ◌<◌, inl, inr, Bool, true, not, List, length, get_or, Option, Some, None, ℤ, ◌+ℤ◌, ◌-ℤ◌}
use Rattle.std.specs.Prelude.{FitsSigned, IfSome, int_le}
use Rattle.std.specs.Int.{w128}
use Rattle.std.proofs.lemmas.Bool.{cases_Bool, eq-eqb}
use Rattle.std.proofs.lemmas.Int.{ints}
use Rattle.std.proofs.lemmas.List.FromFn.{get_or-map-range_with_len, length-map-range_with_len}
use Rattle.mt_model.specs.declared.reading.Reading.{Reading}
use Rattle.mt_model.specs.declared.limits.TheConstants.{MAX_ERROR}
use Rattle.mt_model.specs.Clocks.{greater_of, greatest_below, least_offset, reads, readings_of}
use Rattle.mt_model.specs.Log.{IsLog, IsWithin, Logged}
use Rattle.mt_model.specs.Bounds.{is_too_far_ahead, read_one, shift_of}
use Rattle.mt_model.specs.Timing.{error_of, reading_of}
use Rattle.mt_model.proofs.Offsets.{reading-valid}
use Rattle.skew_bounds.specs.Readings.{HasError, error_together}

module _ (log : Logged) (readings : List (Option Reading)) (are : readings ≡ readings_of log) where
  pub readings-count : length readings ≡ length log.rows
  readings-count = ap length are ∙ length-map-range_with_len (reading_of log) 0 (length log.rows)

  pub reading-at : (e : ℕ) (d : Option Reading) → e < length log.rows → get_or readings e d ≡ reading_of log e
  reading-at e d within = ap (λ rs. get_or rs e d) are ∙ get_or-map-range_with_len (reading_of log) 0 (length log.rows) e e d within (omega arith)

  pub reading-is : (e : ℕ) (r : Option Reading) → e < length log.rows → r ≡ get_or readings e r → r ≡ reading_of log e
  reading-is e r within is = is ∙ reading-at e r within

  pub has-error : (valid : IsLog log) (e : ℕ) (r : Option Reading) → r ≡ reading_of log e → IfSome r HasError
  has-error valid e None is = tt
  has-error valid e (Some r) is = let reading = reading-valid log valid e r (sym is) in record { low = reading.error_low; high = reading.error_high }

-- the readings of two rows, of one clock
record AreOfOne (log : Logged) (e f : ℕ) (error : ℤ) : Type 0 where
  one : read_one log e f ≡ true
  same : error_of log e +ℤ error_of log f ≡ error

module _ (log : Logged) (e f : ℕ) where
  of-one : (error : ℤ) → error_together (reading_of log e) (reading_of log f) ≡ Some error → AreOfOne log e f error
  of-one error is = go (reading_of log e) (reading_of log f) refl refl is
    where
      go : (r q : Option Reading) → reading_of log e ≡ r → reading_of log f ≡ q → error_together r q ≡ Some error → AreOfOne log e f error
      go None q first second is = absurd (cc)
      go (Some r) None first second is = absurd (cc)
      go (Some r) (Some q) first second is = elim (cases_Bool (r.clock == q.clock)) [
        | inl same ↦ let sum : r.error +ℤ q.error ≡ error = cc (rw same at is) in record { one = rw (first, second) same; same = rw (first, second) sum }
        | inr other ↦ absurd (cc (rw other at is))
      ]

  pub ahead-is : (t : List ℤ) (error : ℤ) (b : Bool) → error_together (reading_of log e) (reading_of log f) ≡ Some error
      → b ≡ not (int_le (shift_of log t e -ℤ shift_of log t f) error) → b ≡ is_too_far_ahead log t e f
  ahead-is t error b is told = let are = of-one error is in rw (are.one, are.same) told

pub error-fits : (error : ℤ) → IsWithin (MAX_ERROR +ℤ MAX_ERROR) error → FitsSigned w128 error
error-fits error small = grind (arith, ints, small.low, small.high)

-- a row that reads a clock, whose least offset may be the greatest, and one that doesn't
module _ (log : Logged) (t : List ℤ) (k e : ℕ) where
  pub greatest-next : (r : Reading) → reading_of log e ≡ Some r → r.clock ≡ k → greatest_below log t k (e + 1) ≡ Some (greater_of (greatest_below log t k e) (least_offset log t e))
  greatest-next r found same =
      let next : e + 1 ≡ suc e = omega arith in
      let reads_it : reads log k e ≡ true = rw found (eq-eqb k r.clock (sym same)) in
      rw (next, reads_it) refl
