-- The rows of a timing in the order of their times, and in the order in which they are met.
use Rattle.std.proofs.Common.{◌≡◌, ◌∙◌, ap, refl, ℕ, ◌-◌, ◌<◌, ◌≤◌, true, false, List, length, arith, ℤ, pos, ◌≤ℤ◌, inl, inr}
use Rattle.std.specs.Prelude.{int_lt, int_le, IsPermutation}
use Rattle.std.specs.List.Sorted.{IsSortedByKey}
use Rattle.std.specs.Ordering.{int_cmp, is_lt}
use Rattle.std.proofs.lemmas.Bool.{cases_Bool}
use Rattle.std.proofs.lemmas.Cmp.{int_cmp_total}
use Rattle.std.proofs.lemmas.Int.{ints}
use Rattle.std.proofs.lemmas.List.{get_or_default}
use Rattle.std.proofs.lemmas.List.Elements.{All-from_get_or, All-get_or}
use Rattle.std.proofs.lemmas.List.Sorted.{All-permutation, Contains-permutation, sorted_far, ranks_by}
use Rattle.mt_model.specs.Timing.{time_of}
use Rattle.formula_arena.specs.declared.direction.Direction.{Direction}
use Rattle.formula_arena.specs.declared.direction.Direction.TheVariants.{Ahead, Behind}
use Rattle.witness_replay.specs.Directions.{is_far, rows_from}
use Rattle.witness_replay.specs.Timelines.{IsTimeline, moment_at, moment_of, row_met}
use Rattle.witness_replay.specs.declared.timeline.Moment.{Moment}
use Rattle.std.specs.Cmp.{both_ways}

-- the moment that a place past the end has
abbrev none : Moment
none = record { time = pos 0; row = 0 }

-- a moment is that of its row
abbrev IsTimed : List ℤ → Moment → Type 0
IsTimed t m = (m.row < length t) × (m.time ≡ time_of t m.row)

not-less : (x y : ℤ) → is_lt (int_cmp y x) ≡ false → x ≤ℤ y
not-less x y h = elim (cases_Bool (int_lt y x)) [
  | inl less ↦ let no : is_lt (int_cmp y x) ≡ true = rw less refl in absurd (cc)
  | inr more ↦ grind (arith, ints)
]

-- the rows of a timing are a timeline once they are sorted by their times
pub timeline-sorted : (t : List ℤ) (xs ys : List Moment) → length xs ≡ length t → ((e : ℕ) → e < length t → moment_at xs e ≡ moment_of t e)
    → IsPermutation xs ys → length ys ≡ length xs → IsSortedByKey (λ m. m.time) int_cmp ys → IsTimeline t ys
timeline-sorted t xs ys len each moved same up = record {
  full = same ∙ len;
  rows = All-permutation (IsTimed t) xs ys moved (All-from_get_or (IsTimed t) xs none (λ e within.
      let e_in : e < length t = omega (arith, len) in
      rw (each e e_in) (e_in, refl)));
  each = λ e e_in.
      let within : e < length xs = omega (arith, len) in
      Contains-permutation xs ys (moment_of t e) moved (e, within, get_or_default xs e (moment_of t e) none within ∙ each e e_in);
  rising = λ i j before j_in.
      let within : j < length ys = omega (arith, len, same) in
      not-less _ _ (sorted_far (λ x y. is_lt (int_cmp x.time y.time)) (ranks_by int_cmp_total (λ m. m.time)) ys up i j none before within);
}

-- how far one row is from another one on, where one of the two is met later
module _ (d : Direction) (t : List ℤ) where
  pub far-from_earlier : (low x y m : ℕ) → (rows_from d t).not_after x y ≡ true → is_far d t low y m ≡ true → is_far d t low x m ≡ true
  far-from_earlier low x y m before far = go d before far
    where
      go : (d : Direction) → (rows_from d t).not_after x y ≡ true → is_far d t low y m ≡ true → is_far d t low x m ≡ true
      go Ahead before far = grind (arith, ints)
      go Behind before far = grind (arith, ints)

  pub far-to_later : (low e x y : ℕ) → (rows_from d t).not_after x y ≡ true → is_far d t low e x ≡ true → is_far d t low e y ≡ true
  far-to_later low e x y before far = go d before far
    where
      go : (d : Direction) → (rows_from d t).not_after x y ≡ true → is_far d t low e x ≡ true → is_far d t low e y ≡ true
      go Ahead before far = grind (arith, ints)
      go Behind before far = grind (arith, ints)

  -- what is at some distance is from the row on
  pub far-on : (low e m : ℕ) → is_far d t low e m ≡ true → (rows_from d t).not_after e m ≡ true
  far-on low e m far = go d far
    where
      go : (d : Direction) → is_far d t low e m ≡ true → (rows_from d t).not_after e m ≡ true
      go Ahead far = grind (arith, ints)
      go Behind far = grind (arith, ints)

  on-far : (e m : ℕ) → (rows_from d t).not_after e m ≡ true → is_far d t 0 e m ≡ true
  on-far e m on = go d on
    where
      go : (d : Direction) → (rows_from d t).not_after e m ≡ true → is_far d t 0 e m ≡ true
      go Ahead on = grind (arith, ints)
      go Behind on = grind (arith, ints)

  pub far-none : (e m : ℕ) → is_far d t 0 e m ≡ (rows_from d t).not_after e m
  far-none e m = both_ways _ _ (far-on 0 e m) (on-far e m)

-- the rows of a timeline in the order in which they are met
module _ (d : Direction) (t : List ℤ) (moments : List Moment) (timeline : IsTimeline t moments) where
  pub timed : (k : ℕ) → k < length t → IsTimed t (moment_at moments k)
  timed k within =
      let k_in : k < length moments = omega (arith, timeline.full) in
      All-get_or (IsTimed t) moments k none k_in timeline.rows

  turned : (k : ℕ) → k < length t → length moments - 1 - k < length t
  turned k within = omega (arith, timeline.full)

  back : (k : ℕ) → k < length t → length moments - 1 - (length moments - 1 - k) ≡ k
  back k within = omega (arith, timeline.full)

  pub met-in : (k : ℕ) → k < length t → row_met d moments k < length t
  met-in k within = go d
    where
      go : (d : Direction) → row_met d moments k < length t
      go Ahead = (timed k within).0
      go Behind = (timed (length moments - 1 - k) (turned k within)).0

  at : (e : ℕ) → e < length t → (k : ℕ) × (k < length t) × ((moment_at moments k).row ≡ e)
  at e within =
      let (k, k_in, is) = timeline.each e within in
      let k_in' : k < length t = omega (arith, timeline.full) in
      (k, k_in', rw (get_or_default moments k none (moment_of t e) k_in ∙ is) refl)

  -- each row is met
  pub met-each : (e : ℕ) → e < length t → (k : ℕ) × (k < length t) × (row_met d moments k ≡ e)
  met-each e within = go d
    where
      go : (d : Direction) → (k : ℕ) × (k < length t) × (row_met d moments k ≡ e)
      go Ahead = at e within
      go Behind =
          let (k, k_in, is) = at e within in
          (length moments - 1 - k, turned k k_in, ap (λ j. (moment_at moments j).row) (back k k_in) ∙ is)

  rises : (i j : ℕ) → i ≤ j → j < length t → int_le (time_of t (moment_at moments i).row) (time_of t (moment_at moments j).row) ≡ true
  rises i j before within =
      let i_in : i < length t = omega arith in
      let up = timeline.rising i j before within in
      let is_i = (timed i i_in).1 in
      let is_j = (timed j within).1 in
      grind (arith, ints, up, is_i, is_j)

  -- of two places the first one's row is not met after the second one's
  pub met-ordered : (i j : ℕ) → i ≤ j → j < length t → (rows_from d t).not_after (row_met d moments i) (row_met d moments j) ≡ true
  met-ordered i j before within = go d
    where
      go : (d : Direction) → (rows_from d t).not_after (row_met d moments i) (row_met d moments j) ≡ true
      go Ahead = rises i j before within
      go Behind =
          let i_in : i < length t = omega arith in
          rises (length moments - 1 - j) (length moments - 1 - i) (omega (arith, timeline.full)) (turned i i_in)
