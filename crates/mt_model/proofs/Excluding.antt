-- Clocks and extra bounds only exclude timings, and finer clocks exclude more.
use Rattle.std.proofs.Common.{◌≡◌, ◌∙◌, refl, sym, ap, arith, ℕ, suc, ◌-◌, ◌<◌, List, [], ◌∷◌, length, get_or, reverse, Bool, true, false, cond, Option, Some, None, pos, ◌≤ℤ◌}
use Rattle.std.specs.Prelude.{find, option_map}
use Rattle.std.specs.Option.{option_map_or}
use Rattle.std.proofs.lemmas.Int.{ints}
use Rattle.std.proofs.lemmas.List.{get_or-reverse, length-reverse}
use Rattle.mt_model.specs.declared.reading.Reading.{Reading}
use Rattle.mt_model.specs.Clocks.{AreCoarser, BoundsOnlyExclude, ClocksOnlyExclude, FinerClocksExcludeMore, with_readings, without_clocks}
use Rattle.mt_model.specs.Log.{Logged}
use Rattle.mt_model.specs.Timing.{clock_of, error_of, is_read_at, reading_of}
use Rattle.mt_model.proofs.Unread.{offsets-unread}

pub bounds_only : BoundsOnlyExclude
bounds_only log t ok = record {
  count = ok.count;
  low = ok.low;
  high = ok.high;
  rise = ok.rise;
  message = ok.message;
  late = ok.late;
  extra = λ k x found. absurd (cc);
  clocks = record { offsets = ok.clocks.offsets; are = record { count = ok.clocks.are.count; under = ok.clocks.are.under; over = ok.clocks.are.over } };
}

pub clocks_only : ClocksOnlyExclude
clocks_only log t ok = record {
  count = ok.count;
  low = ok.low;
  high = ok.high;
  rise = ok.rise;
  message = ok.message;
  late = ok.late;
  extra = ok.extra;
  clocks = offsets-unread (without_clocks log) refl t;
}

-- the reading of a clock with an error that is no smaller, or none where there was none
abbrev Coarser : Option Reading → Option Reading → Type 0
Coarser None None = Unit {0}
Coarser None (Some y) = ⊥
Coarser (Some x) None = ⊥
Coarser (Some x) (Some y) = (y.clock ≡ x.clock) × (x.error ≤ℤ y.error)

coarser-tail : (x : Reading) (xs : List Reading) (y : Reading) (ys : List Reading) → AreCoarser (x ∷ xs) (y ∷ ys) → AreCoarser xs ys
coarser-tail x xs y ys are = record {
  count = let n = are.count in omega (arith, n);
  place = λ i d low. are.place (suc i) d (omega (arith, low));
  host = λ i d low. are.host (suc i) d (omega (arith, low));
  clock = λ i d low. are.clock (suc i) d (omega (arith, low));
  error = λ i d low. are.error (suc i) d (omega (arith, low));
}

coarser-turned : (xs ys : List Reading) → AreCoarser xs ys → AreCoarser (reverse xs) (reverse ys)
coarser-turned xs ys are = record {
  count = length-reverse ys ∙ are.count ∙ sym (length-reverse xs);
  place = λ i d low. let n = within i low in rw (at-fine i d n, at-coarse i d n) (are.place (length xs - 1 - i) d (omega (arith, n)));
  host = λ i d low. let n = within i low in rw (at-fine i d n, at-coarse i d n) (are.host (length xs - 1 - i) d (omega (arith, n)));
  clock = λ i d low. let n = within i low in rw (at-fine i d n, at-coarse i d n) (are.clock (length xs - 1 - i) d (omega (arith, n)));
  error = λ i d low. let n = within i low in rw (at-fine i d n, at-coarse i d n) (are.error (length xs - 1 - i) d (omega (arith, n)));
}
  where
    within : (i : ℕ) → i < length (reverse xs) → i < length xs
    within i low = rw length-reverse at low

    at-fine : (i : ℕ) (d : Reading) → i < length xs → get_or (reverse xs) i d ≡ get_or xs (length xs - 1 - i) d
    at-fine i d low = get_or-reverse xs i d low

    at-coarse : (i : ℕ) (d : Reading) → i < length xs → get_or (reverse ys) i d ≡ get_or ys (length xs - 1 - i) d
    at-coarse i d low = get_or-reverse ys i d (omega (arith, low, are.count)) ∙ ap (λ n. get_or ys (n - 1 - i) d) are.count

module _ (log : Logged) (coarse : List Reading) (e : ℕ) where
  found-coarser : (xs ys : List Reading) → AreCoarser xs ys → Coarser (find (is_read_at log e) xs) (find (is_read_at (with_readings coarse log) e) ys)
  found-coarser [] [] are = tt
  found-coarser [] (y ∷ ys) are = absurd (let n = are.count in omega (arith, n))
  found-coarser (x ∷ xs) [] are = absurd (let n = are.count in omega (arith, n))
  found-coarser (x ∷ xs) (y ∷ ys) are =
      let place : y.place ≡ x.place = are.place 0 x (omega arith) in
      let host : y.host ≡ x.host = are.host 0 x (omega arith) in
      let same : is_read_at (with_readings coarse log) e y ≡ is_read_at log e x = rw (place, host) refl in
      let clock : y.clock ≡ x.clock = are.clock 0 x (omega arith) in
      let error : x.error ≤ℤ y.error = are.error 0 x (omega arith) in
      let rest = found-coarser xs ys (coarser-tail x xs y ys are) in
      rw same (choose x y (is_read_at log e x) (find (is_read_at log e) xs) (find (is_read_at (with_readings coarse log) e) ys) (clock, error) rest)
    where
      choose : (x y : Reading) (b : Bool) (o p : Option Reading) → Coarser (Some x) (Some y) → Coarser o p → Coarser (cond b (Some x) o) (cond b (Some y) p)
      choose x y true o p here rest = here
      choose x y false o p here rest = rest

module _ (log : Logged) (coarse : List Reading) (are : AreCoarser log.readings coarse) where
  reading-coarser : (e : ℕ) → Coarser (reading_of log e) (reading_of (with_readings coarse log) e)
  reading-coarser e = found-coarser log coarse e (reverse log.readings) (reverse coarse) (coarser-turned log.readings coarse are)

  clock-kept : (e : ℕ) → clock_of (with_readings coarse log) e ≡ clock_of log e
  clock-kept e = go (reading_of log e) (reading_of (with_readings coarse log) e) (reading-coarser e)
    where
      go : (o p : Option Reading) → Coarser o p → option_map (λ r. r.clock) p ≡ option_map (λ r. r.clock) o
      go None None rest = refl
      go None (Some y) rest = absurd rest
      go (Some x) None rest = absurd rest
      go (Some x) (Some y) rest = ap Some rest.0

  error-no_less : (e : ℕ) → error_of log e ≤ℤ error_of (with_readings coarse log) e
  error-no_less e = go (reading_of log e) (reading_of (with_readings coarse log) e) (reading-coarser e)
    where
      go : (o p : Option Reading) → Coarser o p → option_map_or (λ r. r.error) o (pos 0) ≤ℤ option_map_or (λ r. r.error) p (pos 0)
      go None None rest = omega (arith, ints)
      go None (Some y) rest = absurd rest
      go (Some x) None rest = absurd rest
      go (Some x) (Some y) rest = rest.1

pub finer : FinerClocksExcludeMore
finer log coarse t are ok = record {
  count = ok.count;
  low = ok.low;
  high = ok.high;
  rise = ok.rise;
  message = ok.message;
  late = ok.late;
  extra = ok.extra;
  clocks = record {
    offsets = ok.clocks.offsets;
    are = record {
      count = ok.clocks.are.count;
      under = λ e k low is.
          let before = ok.clocks.are.under e k low (sym (clock-kept log coarse are e) ∙ is) in
          let least = error-no_less log coarse are e in
          omega (arith, ints, before, least);
      over = λ e k low is.
          let before = ok.clocks.are.over e k low (sym (clock-kept log coarse are e) ∙ is) in
          let least = error-no_less log coarse are e in
          omega (arith, ints, before, least);
    };
  };
}
