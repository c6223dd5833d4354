-- Squares and cubes as products.
use Rattle.std.proofs.Common.{◌≡◌, ◌∙◌, ap, ℕ, ◌*◌, ◌^◌}
use Rattle.std.proofs.Math.Nat.{mul-one, pow-succ', pow-zero}

pub cube : (r : ℕ) → r ^ 3 ≡ r * (r * (r * 1))
cube r = pow-succ' r 2 ∙ ap (λ n. r * n) (pow-succ' r 1 ∙ ap (λ n. r * n) (pow-succ' r 0 ∙ ap (λ n. r * n) (pow-zero r)))

pub square : (r : ℕ) → r ^ 2 ≡ r * r
square r = pow-succ' r 1 ∙ ap (λ n. r * n) (pow-succ' r 0 ∙ ap (λ n. r * n) (pow-zero r) ∙ mul-one r)
