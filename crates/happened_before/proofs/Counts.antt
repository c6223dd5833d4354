-- Sums and counts over the numbers below n.
use Rattle.std.proofs.Common.{◌≡◌, ◌∙◌, sym, refl, ap, ℕ, zero, suc, ◌+◌, ◌<◌, ◌≤◌, inl, inr, Bool, true, false, cond, [], ◌∷◌, ◌++◌, arith}
use Rattle.std.specs.Prelude.{count_by, sum_by}
use Rattle.std.specs.List.{range_with_len}
use Rattle.std.proofs.lemmas.Bool.{cases_eq}
use Rattle.std.proofs.lemmas.List.Sums.{sum_by_push}
use Rattle.mt_list.proofs.Lists.{range_more}

pub sum_below-suc : (f : ℕ → ℕ) (n : ℕ) → sum_by f (range_with_len 0 (suc n)) ≡ sum_by f (range_with_len 0 n) + f n
sum_below-suc f n =
    let next : suc n ≡ n + 1 = omega arith in
    let last : 0 + n ≡ n = omega arith in
    ap (λ (m : ℕ). sum_by f (range_with_len 0 m)) next ∙ ap (sum_by f) (range_more 0 n) ∙ ap (λ (j : ℕ). sum_by f (range_with_len 0 n ++ j ∷ [])) last ∙ sum_by_push f (range_with_len 0 n) n

-- a sum of terms that are at least as great
pub sum_below-le : (f g : ℕ → ℕ) (n : ℕ) → ((k : ℕ) → k < n → f k ≤ g k) → sum_by f (range_with_len 0 n) ≤ sum_by g (range_with_len 0 n)
sum_below-le f g zero each = omega arith
sum_below-le f g (suc n) each =
    omega (arith, sum_below-suc f n, sum_below-suc g n, each n (omega arith), sum_below-le f g n (λ k below. each k (omega arith)))

-- and one of them greater
pub sum_below-lt : (f g : ℕ → ℕ) (n i : ℕ) → ((k : ℕ) → k < n → f k ≤ g k) → i < n → f i < g i → sum_by f (range_with_len 0 n) < sum_by g (range_with_len 0 n)
sum_below-lt f g zero i each within less = absurd (omega arith)
sum_below-lt f g (suc n) i each within less =
    let low = sum_below-le f g n (λ k below. each k (omega arith)) in
    elim (cases_eq i n) [
      | inl same ↦ let here : f n < g n = rw same at less in omega (arith, sum_below-suc f n, sum_below-suc g n, here, low)
      | inr other ↦ omega (arith, sum_below-suc f n, sum_below-suc g n, each n (omega arith), sum_below-lt f g n i (λ k below. each k (omega arith)) (omega arith) less)
    ]

-- a count of a test is the sum of its ones
abbrev pub one : Bool → ℕ
one b = cond b 1 0

one-le : (b c : Bool) → (b ≡ true → c ≡ true) → one b ≤ one c
one-le true c so = let passes = so refl in rw passes (omega arith)
one-le false c so = omega arith

-- a test that passes wherever another one does counts at least as much
pub count_below-le : (p q : ℕ → Bool) (n : ℕ) → ((k : ℕ) → k < n → p k ≡ true → q k ≡ true) → count_by p (range_with_len 0 n) ≤ count_by q (range_with_len 0 n)
count_below-le p q n each = sum_below-le (λ k. one (p k)) (λ k. one (q k)) n (λ k below. one-le (p k) (q k) (each k below))

-- and more where the other one fails once
pub count_below-lt : (p q : ℕ → Bool) (n i : ℕ) → ((k : ℕ) → k < n → p k ≡ true → q k ≡ true) → i < n → p i ≡ false → q i ≡ true → count_by p (range_with_len 0 n) < count_by q (range_with_len 0 n)
count_below-lt p q n i each within fails passes =
    sum_below-lt (λ k. one (p k)) (λ k. one (q k)) n i (λ k below. one-le (p k) (q k) (each k below)) within (rw (fails, passes) (omega arith))

-- tests that agree below n count the same
pub count_below-same : (p q : ℕ → Bool) (n : ℕ) → ((k : ℕ) → k < n → p k ≡ q k) → count_by p (range_with_len 0 n) ≡ count_by q (range_with_len 0 n)
count_below-same p q n each =
    let less = count_below-le p q n (λ k below pass. sym (each k below) ∙ pass) in
    let more = count_below-le q p n (λ k below pass. each k below ∙ pass) in
    omega arith

-- where a test fails from m on, only the numbers below m count
pub count_below-cut : (p : ℕ → Bool) (m n : ℕ) → m ≤ n → ((k : ℕ) → m ≤ k → k < n → p k ≡ false) → count_by p (range_with_len 0 n) ≡ count_by p (range_with_len 0 m)
count_below-cut p m zero low none = let same : zero ≡ m = omega arith in ap (λ k. count_by p (range_with_len 0 k)) same
count_below-cut p m (suc n) low none = elim (cases_eq m (suc n)) [
  | inl same ↦ ap (λ k. count_by p (range_with_len 0 k)) (sym same)
  | inr other ↦
      let last : one (p n) ≡ 0 = ap one (none n (omega arith) (omega arith)) in
      omega (arith, sum_below-suc (λ k. one (p k)) n, last, count_below-cut p m n (omega arith) (λ k above below. none k above (omega arith)))
]
