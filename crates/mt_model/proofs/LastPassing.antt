-- The last element of a list that passes a test, from the back on.
use Rattle.std.proofs.Common.{◌≡◌, ◌∙◌, sym, refl, ap, ℕ, suc, ◌-◌, ◌<◌, ◌≤◌, Bool, true, false, List, [], ◌∷◌, ◌++◌, length, get_or, reverse, take, Some, None, arith}
use Rattle.std.proofs.Math.Seq.{take-length, take-suc}
use Rattle.std.specs.Prelude.{find}
use Rattle.std.proofs.lemmas.List.{reverse-append}

module _ {X : Type 0} (test : X → Bool) (xs : List X) where
  pub last-from_front : find test (reverse xs) ≡ find test (reverse (take (length xs) xs))
  last-from_front = ap (λ ys. find test (reverse ys)) (sym (take-length xs))

  -- the elements up to k, the one before k last, are that one and those before it
  front-turned : (k : ℕ) (x : X) → 0 < k → k ≤ length xs → x ≡ get_or xs (k - 1) x → reverse (take k xs) ≡ x ∷ reverse (take (k - 1) xs)
  front-turned k x some within is =
      let next : suc (k - 1) ≡ k = omega arith in
      let split = take-suc xs (k - 1) x (omega arith) in
      let front : take (suc (k - 1)) xs ≡ take (k - 1) xs ++ (x ∷ []) = split ∙ ap (λ y. take (k - 1) xs ++ (y ∷ [])) (sym is) in
      ap (λ n. reverse (take n xs)) (sym next) ∙ ap reverse front ∙ reverse-append (take (k - 1) xs) (x ∷ [])

  pub last-here : (k : ℕ) (x : X) → 0 < k → k ≤ length xs → x ≡ get_or xs (k - 1) x → test x ≡ true → find test (reverse (take k xs)) ≡ Some x
  last-here k x some within is passes = rw (front-turned k x some within is, passes) refl

  pub last-not_here : (k : ℕ) (x : X) → 0 < k → k ≤ length xs → x ≡ get_or xs (k - 1) x → test x ≡ false → find test (reverse (take k xs)) ≡ find test (reverse (take (k - 1) xs))
  last-not_here k x some within is fails = rw (front-turned k x some within is, fails) refl

  pub last-none : (k : ℕ) → k ≡ 0 → find test (reverse (take k xs)) ≡ None
  last-none k is = rw is refl
