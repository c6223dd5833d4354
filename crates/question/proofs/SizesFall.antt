-- A log that admits no more timings than another has no larger problem.
use Rattle.std.proofs.Common.{◌≡◌, refl, ℕ, ◌≤◌, Bool, true, false, cond, List, length, inl, inr, ◌≤ℤ◌, pos, arith}
use Rattle.std.specs.Prelude.{count_by}
use Rattle.std.specs.List.{range_with_len}
use Rattle.std.proofs.Math.Nat.{mul-le-mul_left}
use Rattle.std.proofs.lemmas.Bool.{and_from, and_parts, cases_lt}
use Rattle.std.proofs.lemmas.List.Sums.{sum_by-le-sum_by}
use Rattle.std.proofs.lemmas.Int.{ints}
use Rattle.mt_model.specs.declared.tree.Interval.{Interval}
use Rattle.mt_model.specs.Form.{Form, True, False, Prop, Not, And, Or, Implies, Until, Since, Eventually, Always, Once, Historically}
use Rattle.mt_model.specs.Log.{Logged}
use Rattle.formula_arena.specs.declared.direction.Direction.{Direction}
use Rattle.formula_arena.specs.declared.direction.Direction.TheVariants.{Ahead, Behind}
use Rattle.question.specs.Extremes.{AreExtremes, Extremes, farthest, is_live, nearest}
use Rattle.question.specs.Size.{is_true, live_pairs, reach_size, size_by, tree_size}
use Rattle.question.specs.SizesFall.{AdmitsNoMore, SizesFall}
use Rattle.question.proofs.Distances.{high-all, le-more}

cond-le : (a b : Bool) → (a ≡ true → b ≡ true) → cond a 1 0 ≤ cond b 1 0
cond-le true b more = rw (more refl) (omega arith)
cond-le false b more = omega arith

module _ (log other : Logged) (x y : Extremes) (of_x : AreExtremes log x) (of_y : AreExtremes other y) (no_more : AdmitsNoMore log other) where
  greatest-le : (e f : ℕ) → x.greatest e f ≤ℤ y.greatest e f
  greatest-le e f = elim (cases_lt e (length log.rows)) [
    | inr past ↦ rw (of_x.greatest_beyond e f (inl past), of_y.greatest_beyond e f (inl (rw (← no_more.rows) past))) (omega (arith, ints))
    | inl low ↦ elim (cases_lt f (length log.rows)) [
      | inr past ↦ rw (of_x.greatest_beyond e f (inr past), of_y.greatest_beyond e f (inr (rw (← no_more.rows) past))) (omega (arith, ints))
      | inl less ↦
          let here = (of_x.greatest e f low less).attained in
          let same = here.same in
          let bound = (of_y.greatest e f (rw (← no_more.rows) low) (rw (← no_more.rows) less)).bound here.timing (no_more.admits here.timing here.admissible) in
          omega (arith, ints, same, bound)
    ]
  ]

  least-le : (e f : ℕ) → y.least e f ≤ℤ x.least e f
  least-le e f = elim (cases_lt e (length log.rows)) [
    | inr past ↦ rw (of_x.least_beyond e f (inl past), of_y.least_beyond e f (inl (rw (← no_more.rows) past))) (omega (arith, ints))
    | inl low ↦ elim (cases_lt f (length log.rows)) [
      | inr past ↦ rw (of_x.least_beyond e f (inr past), of_y.least_beyond e f (inr (rw (← no_more.rows) past))) (omega (arith, ints))
      | inl less ↦
          let here = (of_x.least e f low less).attained in
          let same = here.same in
          let bound = (of_y.least e f (rw (← no_more.rows) low) (rw (← no_more.rows) less)).bound here.timing (no_more.admits here.timing here.admissible) in
          omega (arith, ints, same, bound)
    ]
  ]

  far-le : (direction : Direction) (i j : ℕ) → farthest x direction i j ≤ℤ farthest y direction i j
  far-le Ahead i j = greatest-le i j
  far-le Behind i j = greatest-le j i

  near-le : (direction : Direction) (i j : ℕ) → nearest y direction i j ≤ℤ nearest x direction i j
  near-le Ahead i j = least-le i j
  near-le Behind i j = least-le j i

  -- what may be in an interval by the differences of the one log may be by those of the other
  live-more : (direction : Direction) (I : Interval) (i j : ℕ) → is_live x direction I i j ≡ true → is_live y direction I i j ≡ true
  live-more direction I i j live =
      let parts = and_parts _ _ live in
      and_from _ _ (le-more (pos I.low) (farthest x direction i j) (farthest y direction i j) parts.0 (far-le direction i j))
      (high-all I.high (nearest x direction i j) (nearest y direction i j) (near-le direction i j) parts.1)

  count-le : (direction : Direction) (I : Interval) (rows i : ℕ) → count_by (is_live x direction I i) (range_with_len 0 rows) ≤ count_by (is_live y direction I i) (range_with_len 0 rows)
  count-le direction I rows i =
      sum_by-le-sum_by (λ j. cond (is_live x direction I i j) 1 0) (λ j. cond (is_live y direction I i j) 1 0) (range_with_len 0 rows)
      (λ j. cond-le (is_live x direction I i j) (is_live y direction I i j) (live-more direction I i j))

  pairs-le : (direction : Direction) (I : Interval) (rows : ℕ) → live_pairs x direction I rows ≤ live_pairs y direction I rows
  unfolding live_pairs
  pairs-le direction I rows =
      sum_by-le-sum_by (λ i. count_by (is_live x direction I i) (range_with_len 0 rows)) (λ i. count_by (is_live y direction I i) (range_with_len 0 rows)) (range_with_len 0 rows)
      (count-le direction I rows)

  reach-le : (rows : ℕ) (direction : Direction) (I : Interval) (free : Bool) → reach_size x rows direction I free ≤ reach_size y rows direction I free
  reach-le rows direction I true = omega arith
  reach-le rows direction I false = let more = mul-le-mul_left rows (pairs-le direction I rows) in omega (arith, more)

  tree-le : (rows : ℕ) (f : Form) → tree_size x rows f ≤ tree_size y rows f
  tree-le rows True = omega arith
  tree-le rows False = omega arith
  tree-le rows (Prop host name) = omega arith
  tree-le rows (Not f) = omega arith
  tree-le rows (And f g) = omega arith
  tree-le rows (Or f g) = omega arith
  tree-le rows (Implies f g) = omega arith
  tree-le rows (Until I f g) = reach-le rows Ahead I (is_true f)
  tree-le rows (Since I f g) = reach-le rows Behind I (is_true f)
  tree-le rows (Eventually I f) = omega arith
  tree-le rows (Always I f) = omega arith
  tree-le rows (Once I f) = omega arith
  tree-le rows (Historically I f) = omega arith

  size-le : (rows : ℕ) (trees : List Form) → size_by x rows trees ≤ size_by y rows trees
  size-le rows trees = sum_by-le-sum_by (tree_size x rows) (tree_size y rows) trees (tree-le rows)

pub sizes-fall : SizesFall
sizes-fall log other trees m n no_more (inl p) other_size = let zero = p.1 in omega (arith, zero)
sizes-fall log other trees m n no_more (inr a) (inl q) = absurd (q.0 a.consistent.timing (no_more.admits a.consistent.timing a.consistent.admissible))
sizes-fall log other trees m n no_more (inr a) (inr b) =
    let le = size-le log other a.extremes b.extremes a.are b.are no_more (length log.rows) trees in
    let first = a.size in
    let second = rw (← no_more.rows) at b.size in
    omega (arith, le, first, second)
