-- The bounds of a log are met exactly by its admissible timings.
use Rattle.std.proofs.Common.{◌≡◌, refl, arith, ℕ, zero, suc, ◌+◌, ◌<◌, ◌≤◌, inl, inr, List, [], ◌∷◌, ◌++◌, length, get_or, map, true, Option, Some, None, cond, All, ℤ, ◌+ℤ◌, ◌-ℤ◌, ◌≤ℤ◌}
use Rattle.std.specs.Prelude.{IfSome, is_some, slice_get}
use Rattle.std.specs.List.{flat_map, range_with_len}
use Rattle.std.proofs.lemmas.Bool.{cases_eq}
use Rattle.std.proofs.lemmas.Bool.Decides.{nat_tests}
use Rattle.std.proofs.lemmas.Int.{ints}
use Rattle.std.proofs.lemmas.List.Elements.{All-nil, All-cons, All-head, All-tail}
use Rattle.std.proofs.lemmas.Option.{slice_get_within}
use Rattle.mt_model.specs.declared.bound.Bound.{Bound}
use Rattle.mt_model.specs.declared.bound.Bound.TheVariants as bound
use Rattle.mt_model.specs.declared.log.Extra.{Extra}
use Rattle.mt_model.specs.Bounds.{BoundsAreAdmissible, MeetsEach, bounds_at, bounds_of, is_limited, step_of}
use Rattle.mt_model.specs.Laws.{IsBound}
use Rattle.mt_model.specs.Log.{IsExtra, IsLog, Logged}
use Rattle.mt_model.specs.Timing.{Admissible, clock_of, error_of, gap_of, least_delay, local_of, most_delay, previous_row, send_of, skew_of, time_of}
use Rattle.mt_model.specs.Walks.{Meets, edge_of, is_row}
use Rattle.mt_model.proofs.Conflicts.{edge_holds, send_within, times}
use Rattle.mt_model.proofs.NodeTimes.{clock-time, row-time}
use Rattle.mt_model.proofs.PreviousRows.{is_last}
use Rattle.mt_model.proofs.Resyncs.{at-place}

-- what holds of each element holds of each of a part
pub All-front : {X : Type 0} (P : X → Type 0) (xs ys : List X) → All P (xs ++ ys) → All P xs
All-front P [] ys all = All-nil P
All-front P (x ∷ xs) ys all = All-cons P x xs (All-head P x (xs ++ ys) all) (All-front P xs ys (All-tail P x (xs ++ ys) all))

pub All-back : {X : Type 0} (P : X → Type 0) (xs ys : List X) → All P (xs ++ ys) → All P ys
All-back P [] ys all = all
All-back P (x ∷ xs) ys all = All-back P xs ys (All-tail P x (xs ++ ys) all)

pub All-flat_map : {X : Type 0} (P : X → Type 0) (f : ℕ → List X) (a n e : ℕ) → All P (flat_map f (range_with_len a n)) → a ≤ e → e < a + n → All P (f e)
All-flat_map P f a zero e all least most = absurd (omega arith)
All-flat_map P f a (suc n) e all least most = elim (cases_eq a e) [
  | inl same ↦ rw (← same) (All-front P (f a) (flat_map f (range_with_len (a + 1) n)) all)
  | inr other ↦ All-flat_map P f (a + 1) n e (All-back P (f a) (flat_map f (range_with_len (a + 1) n)) all) (omega arith) (omega arith)
]

pub All-map : {X : Type 0} (P : X → Type 0) (f : ℕ → X) (a n e : ℕ) → All P (map f (range_with_len a n)) → a ≤ e → e < a + n → P (f e)
All-map P f a zero e all least most = absurd (omega arith)
All-map P f a (suc n) e all least most = elim (cases_eq a e) [
  | inl same ↦ rw (← same) (All-head P (f a) (map f (range_with_len (a + 1) n)) all)
  | inr other ↦ All-map P f (a + 1) n e (All-tail P (f a) (map f (range_with_len (a + 1) n)) all) (omega arith) (omega arith)
]

pub IfSome-where : {A : Type 0} (o : Option A) (P : A → Type 0) → ((x : A) → o ≡ Some x → P x) → IfSome o P
IfSome-where None P h = tt
IfSome-where (Some x) P h = h x refl

pub step_of-is_bound : (b : Bound) → IsBound (step_of b)
step_of-is_bound (bound.Low e) = tt
step_of-is_bound (bound.High e) = tt
step_of-is_bound (bound.Rise e) = tt
step_of-is_bound (bound.Message e) = tt
step_of-is_bound (bound.Late e) = tt
step_of-is_bound (bound.Under e) = tt
step_of-is_bound (bound.Over e) = tt
step_of-is_bound (bound.Extra k) = tt

module _ (log : Logged) (t : List ℤ) where
  -- an admissible timing meets every bound, with its offsets
  pub met : (ok : Admissible log t) (b : Bound) → IfSome (edge_of log (step_of b)) (Meets (times log t ok))
  met ok b = IfSome-where (edge_of log (step_of b)) (Meets (times log t ok)) (λ x is. let holds = edge_holds log t ok (step_of b) x (step_of-is_bound b) is in omega (arith, ints, holds))

-- what holds of all bounds of a log holds of those of a kind
module _ (log : Logged) (P : Bound → Type 0) (all : All P (bounds_of log)) where
  row_listed : (e : ℕ) → e < length log.rows → All P (bounds_at log e)
  row_listed e within =
      All-flat_map P (bounds_at log) 0 (length log.rows) e
      (All-front P (flat_map (bounds_at log) (range_with_len 0 (length log.rows)))
      (map bound.Extra (range_with_len 0 (length log.extras))) all) (omega arith) (omega arith)

  -- the bounds that only some rows have
  abbrev rises : ℕ → List Bound
  rises f = cond (is_some (previous_row log f)) (bound.Rise f ∷ []) []

  abbrev messages : ℕ → List Bound
  messages r = cond (is_some (send_of log r)) (bound.Message r ∷ []) []

  abbrev lates : ℕ → List Bound
  lates r = cond (is_limited log r) (bound.Late r ∷ []) []

  abbrev reads : ℕ → List Bound
  reads e = cond (is_some (clock_of log e)) (bound.Under e ∷ bound.Over e ∷ []) []

  -- the bounds of a row but for those on its clock, and but for the one on a greatest delay too
  abbrev without_reads : ℕ → List Bound
  without_reads e = bound.Low e ∷ bound.High e ∷ [] ++ rises e ++ messages e ++ lates e

  abbrev others : ℕ → List Bound
  others e = bound.Low e ∷ bound.High e ∷ [] ++ rises e ++ messages e

  without_reads_listed : (e : ℕ) → e < length log.rows → All P (without_reads e)
  without_reads_listed e within = All-front P (without_reads e) (reads e) (row_listed e within)

  others_listed : (e : ℕ) → e < length log.rows → All P (others e)
  others_listed e within = All-front P (others e) (lates e) (without_reads_listed e within)

  two_listed : (e : ℕ) → e < length log.rows → All P (bound.Low e ∷ bound.High e ∷ [])
  two_listed e within =
      All-front P (bound.Low e ∷ bound.High e ∷ []) (rises e) (All-front P (bound.Low e ∷ bound.High e ∷ [] ++ rises e) (messages e) (others_listed e within))

  pub low_listed : (e : ℕ) → e < length log.rows → P (bound.Low e)
  low_listed e within = All-head P (bound.Low e) (bound.High e ∷ []) (two_listed e within)

  pub high_listed : (e : ℕ) → e < length log.rows → P (bound.High e)
  high_listed e within = All-head P (bound.High e) [] (All-tail P (bound.Low e) (bound.High e ∷ []) (two_listed e within))

  pub rise_listed : (e f : ℕ) → f < length log.rows → previous_row log f ≡ Some e → P (bound.Rise f)
  rise_listed e f within previous =
      let both = All-front P (bound.Low f ∷ bound.High f ∷ [] ++ rises f) (messages f) (others_listed f within) in
      All-head P (bound.Rise f) [] (rw previous at (All-back P (bound.Low f ∷ bound.High f ∷ []) (rises f) both))

  pub message_listed : (s r : ℕ) → r < length log.rows → send_of log r ≡ Some s → P (bound.Message r)
  message_listed s r within sent =
      All-head P (bound.Message r) [] (rw sent at (All-back P (bound.Low r ∷ bound.High r ∷ [] ++ rises r) (messages r) (others_listed r within)))

  pub late_listed : (s r : ℕ) (most : ℤ) → r < length log.rows → send_of log r ≡ Some s → most_delay log r ≡ Some most → P (bound.Late r)
  late_listed s r most within sent limited =
      All-head P (bound.Late r) [] (rw (sent, limited) at (All-back P (others r) (lates r) (without_reads_listed r within)))

  read_listed : (e k : ℕ) → e < length log.rows → clock_of log e ≡ Some k → All P (bound.Under e ∷ bound.Over e ∷ [])
  read_listed e k within clock = rw clock at (All-back P (without_reads e) (reads e) (row_listed e within))

  pub under_listed : (e k : ℕ) → e < length log.rows → clock_of log e ≡ Some k → P (bound.Under e)
  under_listed e k within clock = All-head P (bound.Under e) (bound.Over e ∷ []) (read_listed e k within clock)

  pub over_listed : (e k : ℕ) → e < length log.rows → clock_of log e ≡ Some k → P (bound.Over e)
  over_listed e k within clock = All-head P (bound.Over e) [] (All-tail P (bound.Under e) (bound.Over e ∷ []) (read_listed e k within clock))

  pub extra_listed : (k : ℕ) → k < length log.extras → P (bound.Extra k)
  extra_listed k within =
      let back = All-back P (flat_map (bounds_at log) (range_with_len 0 (length log.rows))) (map bound.Extra (range_with_len 0 (length log.extras))) all in
      All-map P bound.Extra 0 (length log.extras) k back (omega arith) (omega arith)

-- times of rows with offsets behind them that meet all bounds
module _ (log : Logged) (valid : IsLog log) (t offsets : List ℤ) (count : length t ≡ length log.rows) (all : MeetsEach log (t ++ offsets)) where
  abbrev IsMet : Bound → Type 0
  IsMet b = IfSome (edge_of log (step_of b)) (Meets (t ++ offsets))

  row : (e : ℕ) → e < length log.rows → time_of (t ++ offsets) e ≡ time_of t e
  row = row-time log t offsets count

  row_at : (e : ℕ) → e < length log.rows → is_row log e ≡ true
  row_at e within = grind (arith, nat_tests)

  low_met : (e : ℕ) → e < length log.rows → (local_of log e -ℤ skew_of log e) ≤ℤ time_of t e
  low_met e within =
      let meets = rw (row_at e within) at (low_listed log IsMet all e within) in
      omega (arith, ints, meets, row e within)

  high_met : (e : ℕ) → e < length log.rows → time_of t e ≤ℤ (local_of log e +ℤ skew_of log e)
  high_met e within =
      let meets = rw (row_at e within) at (high_listed log IsMet all e within) in
      omega (arith, ints, meets, row e within)

  rise_met : (e f : ℕ) → f < length log.rows → previous_row log f ≡ Some e → (time_of t e +ℤ gap_of log f) ≤ℤ time_of t f
  rise_met e f within previous =
      let meets = rw (row_at f within, previous) at (rise_listed log IsMet all e f within previous) in
      let before = (is_last.found log e f previous).before in
      omega (arith, ints, meets, row e (omega (arith, before, within)), row f within)

  message_met : (s r : ℕ) → r < length log.rows → send_of log r ≡ Some s → (time_of t s +ℤ least_delay log r) ≤ℤ time_of t r
  message_met s r within sent =
      let meets = rw sent at (message_listed log IsMet all s r within sent) in
      omega (arith, ints, meets, row s (send_within log r s sent), row r within)

  late_met : (s r : ℕ) (most : ℤ) → r < length log.rows → send_of log r ≡ Some s → most_delay log r ≡ Some most → time_of t r ≤ℤ (time_of t s +ℤ most)
  late_met s r most within sent limited =
      let meets = rw (sent, limited) at (late_listed log IsMet all s r most within sent limited) in
      omega (arith, ints, meets, row s (send_within log r s sent), row r within)

  under_met : (e k : ℕ) → e < length log.rows → clock_of log e ≡ Some k → (local_of log e -ℤ error_of log e) ≤ℤ (time_of t e -ℤ time_of offsets k)
  under_met e k within clock =
      let meets = rw (row_at e within, clock) at (under_listed log IsMet all e k within clock) in
      omega (arith, ints, meets, row e within, clock-time log t offsets count k)

  over_met : (e k : ℕ) → e < length log.rows → clock_of log e ≡ Some k → (time_of t e -ℤ time_of offsets k) ≤ℤ (local_of log e +ℤ error_of log e)
  over_met e k within clock =
      let meets = rw (row_at e within, clock) at (over_listed log IsMet all e k within clock) in
      omega (arith, ints, meets, row e within, clock-time log t offsets count k)

  extra_met : (k : ℕ) (x : Extra) → slice_get log.extras k ≡ Some x → (time_of t x.e -ℤ time_of t x.f) ≤ℤ x.c
  extra_met k x found =
      let extra = at-place (IsExtra (length log.rows)) log.extras k x valid.extras found in
      let guarded = rw found at (extra_listed log IsMet all k (slice_get_within log.extras k x found)) in
      let meets = rw (row_at x.e extra.e, row_at x.f extra.f) at guarded in
      omega (arith, ints, meets, row x.e extra.e, row x.f extra.f)

pub bounds-admissible : BoundsAreAdmissible
bounds-admissible log t valid = (
  λ ok. (
    ok.count,
    record {
      offsets = ok.clocks.offsets;
      count = ok.clocks.are.count;
      each = λ k d within. met log t ok (get_or (bounds_of log) k d);
    },
  ),
  λ all. let times = all.1 in record {
    count = all.0;
    low = low_met log valid t times.offsets all.0 times.each;
    high = high_met log valid t times.offsets all.0 times.each;
    rise = rise_met log valid t times.offsets all.0 times.each;
    message = message_met log valid t times.offsets all.0 times.each;
    late = late_met log valid t times.offsets all.0 times.each;
    extra = extra_met log valid t times.offsets all.0 times.each;
    clocks = record {
      offsets = times.offsets;
      are = record {
        count = times.count;
        under = under_met log valid t times.offsets all.0 times.each;
        over = over_met log valid t times.offsets all.0 times.each;
      };
    };
  },
)
