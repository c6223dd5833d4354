-- A log and a formula's nodes have one size.
use Rattle.std.proofs.Common.{◌≡◌, ap, refl, ℕ, Bool, cond, List, length, inl, inr, ℤ, arith}
use Rattle.std.specs.Prelude.{count_by, sum_by}
use Rattle.std.proofs.lemmas.Bool.{cases_lt}
use Rattle.std.specs.List.{range_with_len}
use Rattle.std.proofs.lemmas.List.Sums.{sum_by-le-sum_by}
use Rattle.std.proofs.lemmas.Int.{ints}
use Rattle.mt_model.specs.declared.tree.Interval.{Interval}
use Rattle.mt_model.specs.Form.{Form, True, False, Prop, Not, And, Or, Implies, Until, Since, Eventually, Always, Once, Historically}
use Rattle.mt_model.specs.Log.{Logged}
use Rattle.skew_bounds.specs.Tight.{IsGreatestDifference, IsLeastDifference}
use Rattle.formula_arena.specs.declared.direction.Direction.{Direction}
use Rattle.formula_arena.specs.declared.direction.Direction.TheVariants.{Ahead, Behind}
use Rattle.question.specs.Extremes.{AreExtremes, Extremes, farthest, is_live, nearest}
use Rattle.question.specs.Size.{live_pairs, size_by, tree_size}
use Rattle.question.specs.SizeLaws.{SizesAreUnique}

-- a number below another one or not
-- sums of equal terms
pub same-sums : {X : Type 0} (f g : X → ℕ) (xs : List X) → ((x : X) → f x ≡ g x) → sum_by f xs ≡ sum_by g xs
same-sums f g xs same =
    let up = sum_by-le-sum_by f g xs (λ x. let e = same x in omega (arith, e)) in
    let down = sum_by-le-sum_by g f xs (λ x. let e = same x in omega (arith, e)) in
    omega (arith, up, down)

pub same-counts : {X : Type 0} (p q : X → Bool) (xs : List X) → ((x : X) → p x ≡ q x) → count_by p xs ≡ count_by q xs
same-counts p q xs same = same-sums (λ x. cond (p x) 1 0) (λ x. cond (q x) 1 0) xs (λ x. ap (λ b. cond b 1 0) (same x))

module _ (log : Logged) (x y : Extremes) (of_x : AreExtremes log x) (of_y : AreExtremes log y) where
  one-greatest : (e f : ℕ) (c d : ℤ) → IsGreatestDifference log e f c → IsGreatestDifference log e f d → c ≡ d
  one-greatest e f c d a b =
      let up = b.bound a.attained.timing a.attained.admissible in
      let down = a.bound b.attained.timing b.attained.admissible in
      let here = a.attained.same in
      let there = b.attained.same in
      omega (arith, ints, up, down, here, there)

  one-least : (e f : ℕ) (c d : ℤ) → IsLeastDifference log e f c → IsLeastDifference log e f d → c ≡ d
  one-least e f c d a b =
      let up = b.bound a.attained.timing a.attained.admissible in
      let down = a.bound b.attained.timing b.attained.admissible in
      let here = a.attained.same in
      let there = b.attained.same in
      omega (arith, ints, up, down, here, there)

  greatest-same : (e f : ℕ) → x.greatest e f ≡ y.greatest e f
  greatest-same e f = elim (cases_lt e (length log.rows)) [
    | inr past ↦ rw (of_x.greatest_beyond e f (inl past), of_y.greatest_beyond e f (inl past)) refl
    | inl low ↦ elim (cases_lt f (length log.rows)) [
      | inr past ↦ rw (of_x.greatest_beyond e f (inr past), of_y.greatest_beyond e f (inr past)) refl
      | inl less ↦ one-greatest e f (x.greatest e f) (y.greatest e f) (of_x.greatest e f low less) (of_y.greatest e f low less)
    ]
  ]

  least-same : (e f : ℕ) → x.least e f ≡ y.least e f
  least-same e f = elim (cases_lt e (length log.rows)) [
    | inr past ↦ rw (of_x.least_beyond e f (inl past), of_y.least_beyond e f (inl past)) refl
    | inl low ↦ elim (cases_lt f (length log.rows)) [
      | inr past ↦ rw (of_x.least_beyond e f (inr past), of_y.least_beyond e f (inr past)) refl
      | inl less ↦ one-least e f (x.least e f) (y.least e f) (of_x.least e f low less) (of_y.least e f low less)
    ]
  ]

  far-same : (direction : Direction) (i j : ℕ) → farthest x direction i j ≡ farthest y direction i j
  far-same Ahead i j = greatest-same i j
  far-same Behind i j = greatest-same j i

  near-same : (direction : Direction) (i j : ℕ) → nearest x direction i j ≡ nearest y direction i j
  near-same Ahead i j = least-same i j
  near-same Behind i j = least-same j i

  live-same : (direction : Direction) (I : Interval) (i j : ℕ) → is_live x direction I i j ≡ is_live y direction I i j
  live-same direction I i j = rw (far-same direction i j, near-same direction i j) refl

  pairs-same : (direction : Direction) (I : Interval) (rows : ℕ) → live_pairs x direction I rows ≡ live_pairs y direction I rows
  unfolding live_pairs
  pairs-same direction I rows =
      same-sums (λ i. count_by (is_live x direction I i) (range_with_len 0 rows)) (λ i. count_by (is_live y direction I i) (range_with_len 0 rows)) (range_with_len 0 rows)
      (λ i. same-counts (is_live x direction I i) (is_live y direction I i) (range_with_len 0 rows) (live-same direction I i))

  tree-same : (rows : ℕ) (f : Form) → tree_size x rows f ≡ tree_size y rows f
  tree-same rows True = refl
  tree-same rows False = refl
  tree-same rows (Prop host name) = refl
  tree-same rows (Not f) = refl
  tree-same rows (And f g) = refl
  tree-same rows (Or f g) = refl
  tree-same rows (Implies f g) = refl
  tree-same rows (Until I f g) = rw (pairs-same Ahead I rows) refl
  tree-same rows (Since I f g) = rw (pairs-same Behind I rows) refl
  tree-same rows (Eventually I f) = refl
  tree-same rows (Always I f) = refl
  tree-same rows (Once I f) = refl
  tree-same rows (Historically I f) = refl

  size-same : (rows : ℕ) (trees : List Form) → size_by x rows trees ≡ size_by y rows trees
  size-same rows trees = same-sums (tree_size x rows) (tree_size y rows) trees (tree-same rows)

pub sizes-unique : SizesAreUnique
sizes-unique log trees m n (inl p) (inl q) = rw (p.1, q.1) refl
sizes-unique log trees m n (inl p) (inr b) = absurd (p.0 b.consistent.timing b.consistent.admissible)
sizes-unique log trees m n (inr a) (inl q) = absurd (q.0 a.consistent.timing a.consistent.admissible)
sizes-unique log trees m n (inr a) (inr b) = rw (a.size, b.size) (size-same log a.extremes b.extremes a.are b.are (length log.rows) trees)
