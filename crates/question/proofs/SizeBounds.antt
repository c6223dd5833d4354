-- How large a size is at most.
use Rattle.std.proofs.Common.{◌≡◌, refl, ℕ, zero, suc, ◌≤◌, ◌+◌, ◌*◌, ◌^◌, Bool, true, false, List, [], ◌∷◌, length, inl, inr, add-one, arith}
use Rattle.std.specs.Prelude.{count_by, sum_by}
use Rattle.std.specs.List.{range_with_len}
use Rattle.std.proofs.Math.Nat.{mul-le-mul_left, suc-mul}
use Rattle.std.proofs.lemmas.Bool.{cases_Bool}
use Rattle.std.proofs.lemmas.List.Sums.{count_by-le-length, sum_by-cons, sum_by-le}
use Rattle.std.proofs.lemmas.List.FromFn.{length-range_with_len}
use Rattle.mt_model.specs.declared.tree.Interval.{Interval}
use Rattle.mt_model.specs.Form.{Form, True, False, Prop, Not, And, Or, Implies, Until, Since, Eventually, Always, Once, Historically}
use Rattle.formula_arena.specs.declared.direction.Direction.{Direction}
use Rattle.formula_arena.specs.declared.direction.Direction.TheVariants.{Ahead, Behind}
use Rattle.question.proofs.Cubes.{cube, square}
use Rattle.question.specs.Extremes.{Extremes, is_live}
use Rattle.question.specs.Size.{is_reach, is_true, live_pairs, reach_size, reaches_in, size_by, tree_size}
use Rattle.question.specs.SizeLaws.{SmallCubesAreSmall}

-- a sum over one number more
sum-range-from : (f : ℕ → ℕ) (a n j : ℕ) → a + n ≡ j → sum_by f (range_with_len a (suc n)) ≡ sum_by f (range_with_len a n) + f j
sum-range-from f a zero j at = let e : a ≡ j = omega (arith, at) in rw e (omega (arith, sum_by-cons f j []))
sum-range-from f a (suc n) j at =
    let ih = sum-range-from f (a + 1) n j (omega (arith, at)) in
    let longer = sum_by-cons f a (range_with_len (a + 1) (suc n)) in
    let shorter = sum_by-cons f a (range_with_len (a + 1) n) in
    omega (arith, ih, longer, shorter)

pub sum-range : (f : ℕ → ℕ) (n : ℕ) → sum_by f (range_with_len 0 (n + 1)) ≡ sum_by f (range_with_len 0 n) + f n
sum-range f n = rw add-one (sum-range-from f 0 n n (omega arith))

module _ (x : Extremes) (rows : ℕ) where
  pub live-few : (direction : Direction) (I : Interval) (i : ℕ) → count_by (is_live x direction I i) (range_with_len 0 rows) ≤ rows
  live-few direction I i = let low = count_by-le-length (is_live x direction I i) (range_with_len 0 rows) in omega (arith, low, length-range_with_len 0 rows)

  pub pairs-few : (direction : Direction) (I : Interval) → live_pairs x direction I rows ≤ rows * rows
  unfolding live_pairs
  pairs-few direction I =
      let low = sum_by-le (λ i. count_by (is_live x direction I i) (range_with_len 0 rows)) rows (range_with_len 0 rows) (λ i d less. live-few direction I _) in
      rw (length-range_with_len 0 rows) at low

  -- an until or a since is no larger than the square and the cube of the rows
  pub reach-few : (direction : Direction) (I : Interval) (free : Bool) → reach_size x rows direction I free ≤ rows ^ 2 + rows * (rows * rows)
  reach-few direction I true = omega arith
  reach-few direction I false = let low = mul-le-mul_left rows (pairs-few direction I) in omega (arith, low)

  -- a tree that is no until and no since adds nothing
  pub tree-none : (f : Form) → is_reach f ≡ false → tree_size x rows f ≡ 0
  tree-none True none = refl
  tree-none False none = refl
  tree-none (Prop host name) none = refl
  tree-none (Not f) none = refl
  tree-none (And f g) none = refl
  tree-none (Or f g) none = refl
  tree-none (Implies f g) none = refl
  tree-none (Until I f g) none = absurd (cc)
  tree-none (Since I f g) none = absurd (cc)
  tree-none (Eventually I f) none = refl
  tree-none (Always I f) none = refl
  tree-none (Once I f) none = refl
  tree-none (Historically I f) none = refl

  tree-few : (f : Form) → is_reach f ≡ true → tree_size x rows f ≤ rows ^ 2 + rows * (rows * rows)
  tree-few True is = absurd (cc)
  tree-few False is = absurd (cc)
  tree-few (Prop host name) is = absurd (cc)
  tree-few (Not f) is = absurd (cc)
  tree-few (And f g) is = absurd (cc)
  tree-few (Or f g) is = absurd (cc)
  tree-few (Implies f g) is = absurd (cc)
  tree-few (Until I f g) is = reach-few Ahead I (is_true f)
  tree-few (Since I f g) is = reach-few Behind I (is_true f)
  tree-few (Eventually I f) is = absurd (cc)
  tree-few (Always I f) is = absurd (cc)
  tree-few (Once I f) is = absurd (cc)
  tree-few (Historically I f) is = absurd (cc)

  pub size-few : (trees : List Form) → size_by x rows trees ≤ length (reaches_in trees) * (rows ^ 2 + rows * (rows * rows))
  size-few [] = omega arith
  size-few (f ∷ trees) =
      let ih = size-few trees in
      let sum = sum_by-cons (tree_size x rows) f trees in
      elim (cases_Bool (is_reach f)) [
        | inl is ↦ rw is (let more = suc-mul (length (reaches_in trees)) (rows ^ 2 + rows * (rows * rows)) in let here = tree-few f is in omega (arith, ih, sum, more, here))
        | inr none ↦ rw none (let here = tree-none f none in omega (arith, ih, sum, here))
      ]

square-low : (n : ℕ) → n ^ 2 ≤ n * (n * n)
square-low zero = omega arith
square-low (suc n) =
    let one : 1 ≤ suc n = omega arith in
    let wide : suc n * 1 ≤ suc n * suc n = mul-le-mul_left (suc n) one in
    let more = mul-le-mul_left (suc n) wide in
    omega (arith, more, square (suc n))

pub small-cubes : SmallCubesAreSmall
small-cubes log trees cubes n (inl none) = let zero = none.1 in omega (arith, zero)
small-cubes log trees cubes n (inr is) =
    let rows = length log.rows in
    let reaches = length (reaches_in trees) in
    let few = size-few is.extremes rows trees in
    let twice = mul-le-mul_left reaches (let low = square-low rows in let h : rows ^ 2 + rows * (rows * rows) ≤ 2 * rows ^ 3 = omega (arith, low, cube rows) in h) in
    let size = is.size in
    omega (arith, few, twice, size, cubes)
