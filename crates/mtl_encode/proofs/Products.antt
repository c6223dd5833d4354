-- Products of two numbers of which the sum is small.
use Rattle.std.proofs.Common.{◌≡◌, ◌+◌, ◌-◌, ◌*◌, ◌≤◌, ◌⊎◌, ℕ, inl, inr, arith}
use Rattle.std.proofs.Math.Nat.{add-mul, mul-add, mul-le-mul_right, mul_comm}

-- four times a product is at most the square of the sum
apart-low : (c d : ℕ) → 4 * (c * (c + d)) ≤ (c + (c + d)) * (c + (c + d))
apart-low c d =
    let first = mul-add c c d in
    let all = add-mul c (c + d) (c + (c + d)) in
    let left = mul-add c c (c + d) in
    let right = mul-add (c + d) c (c + d) in
    let low = add-mul c d c in
    let high = add-mul c d (c + d) in
    let last = mul-add d c d in
    let same = mul_comm d c in
    omega (arith, first, all, left, right, low, high, last, same)

ordered : (c p : ℕ) → (c ≤ p) ⊎ (p ≤ c)
ordered c p = grind arith

product-low : (c p : ℕ) → 4 * (c * p) ≤ (c + p) * (c + p)
product-low c p = elim (ordered c p) [
  | inl less ↦
      let e : c + (p - c) ≡ p = omega (arith, less) in
      rw e at (apart-low c (p - c))
  | inr less ↦
      let e : p + (c - p) ≡ c = omega (arith, less) in
      let low : 4 * (p * c) ≤ (p + c) * (p + c) = rw e at (apart-low p (c - p)) in
      let same = mul_comm p c in
      let sum : p + c ≡ c + p = omega arith in
      let turned : 4 * (p * c) ≤ (c + p) * (c + p) = rw sum at low in
      omega (arith, turned, same)
]

-- where the sum is at most 1,024
pub product-few : (c p : ℕ) → c + p ≤ 1024 → c * (p + 5) ≤ 261 * (c + p)
product-few c p few =
    let square = product-low c p in
    let low = mul-le-mul_right (c + p) few in
    let apart = mul-add c p 5 in
    omega (arith, square, low, apart)
