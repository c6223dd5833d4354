-- Items in the order of their places: those before a place, and those at it.
use Rattle.std.proofs.Common.{◌≡◌, refl, ap, arith, ℕ, suc, ◌≤◌, ◌==◌, inl, inr, Bool, true, false, cond, List, [], ◌∷◌, ◌++◌}
use Rattle.std.specs.Prelude.{All, AllPairs, filter, nat_le, nat_lt}
use Rattle.std.proofs.lemmas.Bool.{cases_order, eq-eqb, le-leb, le-ltb, lt-leb, lt-ltb, ne_eqb}
use Rattle.std.proofs.lemmas.List.Elements.{All-cons, All-head, All-nil, All-tail}
use Rattle.mt_list.proofs.Lists.{filter_whole}

filter-none : {X : Type 0} (p : X → Bool) (xs : List X) → All (λ x. p x ≡ false) xs → filter p xs ≡ []
filter-none p [] none = refl
filter-none p (x ∷ xs) none =
    let here = All-head (λ x. p x ≡ false) x xs none in
    let rest = filter-none p xs (All-tail (λ x. p x ≡ false) x xs none) in
    rw (here, rest) refl

-- each element of a filter passes
pub filter-passes : {X : Type 0} (p : X → Bool) (xs : List X) → All (λ x. p x ≡ true) (filter p xs)
filter-passes p [] = All-nil (λ x. p x ≡ true)
filter-passes p (x ∷ xs) = go (p x) refl (filter-passes p xs)
  where
    go : (b : Bool) → p x ≡ b → All (λ x. p x ≡ true) (filter p xs) → All (λ x. p x ≡ true) (cond b (x ∷ filter p xs) (filter p xs))
    go true is rest = All-cons (λ x. p x ≡ true) x (filter p xs) is rest
    go false is rest = rest

module _ {X : Type 0} (place : X → ℕ) where
  -- the items before a place
  abbrev pub placed_before : List X → ℕ → List X
  placed_before xs n = filter (λ x. nat_lt (place x) n) xs

  later-pairs : (x : X) (xs : List X) → AllPairs (λ q r. place q ≤ place r) (x ∷ xs) → AllPairs (λ q r. place q ≤ place r) xs
  later-pairs x xs order i j d before within = order (suc i) (suc j) d (omega arith) (omega (arith, within))

  none-before : (x : X) (xs : List X) (n : ℕ) → AllPairs (λ q r. place q ≤ place r) (x ∷ xs) → n ≤ place x → placed_before xs n ≡ []
  none-before x xs n order high =
      filter-none (λ y. nat_lt (place y) n) xs (λ k d within. let later = order 0 (suc k) d (omega arith) (omega (arith, within)) in le-ltb _ n (omega (arith, high, later)))

  -- where places do not fall, those before a place and those at it are those before the next
  pub front-more : (xs : List X) (n : ℕ) → AllPairs (λ q r. place q ≤ place r) xs → placed_before xs n ++ filter (λ x. place x == n) xs ≡ placed_before xs (suc n)
  front-more [] n order = refl
  front-more (x ∷ xs) n order =
      let rest = front-more xs n (later-pairs x xs order) in
      elim (cases_order (place x) n) [
        | inr (inl less) ↦
            let a = lt-ltb (place x) n less in
            let b = ne_eqb (place x) n (λ same. absurd (omega (arith, same, less))) in
            let c = lt-ltb (place x) (suc n) (omega (arith, less)) in
            rw (a, b, c) (ap (λ ys. x ∷ ys) rest)
        | inl same ↦
            let a = le-ltb (place x) n (omega (arith, same)) in
            let b = eq-eqb (place x) n same in
            let c = lt-ltb (place x) (suc n) (omega (arith, same)) in
            let none : placed_before xs n ≡ [] = none-before x xs n order (omega (arith, same)) in
            rw (a, b, c, none) (ap (λ ys. x ∷ ys) (rw none at rest))
        | inr (inr more) ↦
            let a = le-ltb (place x) n (omega (arith, more)) in
            let b = ne_eqb (place x) n (λ same. absurd (omega (arith, same, more))) in
            let c = le-ltb (place x) (suc n) (omega (arith, more)) in
            rw (a, b, c) rest
      ]

  -- those before a place, and the others, are all
  pub front-rest : (xs : List X) (n : ℕ) → AllPairs (λ q r. place q ≤ place r) xs → placed_before xs n ++ filter (λ x. nat_le n (place x)) xs ≡ xs
  front-rest [] n order = refl
  front-rest (x ∷ xs) n order =
      let rest = front-rest xs n (later-pairs x xs order) in
      elim (cases_order (place x) n) [
        | inr (inl less) ↦ let a = lt-ltb (place x) n less in let b = lt-leb n (place x) less in rw (a, b) (ap (λ ys. x ∷ ys) rest)
        | inl same ↦
            let a = le-ltb (place x) n (omega (arith, same)) in
            let b = le-leb n (place x) (omega (arith, same)) in
            let none : placed_before xs n ≡ [] = none-before x xs n order (omega (arith, same)) in
            rw (a, b, none) (ap (λ ys. x ∷ ys) (rw none at rest))
        | inr (inr more) ↦
            let a = le-ltb (place x) n (omega (arith, more)) in
            let b = le-leb n (place x) (omega (arith, more)) in
            let none : placed_before xs n ≡ [] = none-before x xs n order (omega (arith, more)) in
            rw (a, b, none) (ap (λ ys. x ∷ ys) (rw none at rest))
      ]

  -- none is before place 0, and all are before the end
  pub before-none : (xs : List X) → placed_before xs 0 ≡ []
  before-none xs = filter-none (λ x. nat_lt (place x) 0) xs (λ k d within. le-ltb _ 0 (omega arith))

  pub before-all : (xs : List X) (n : ℕ) → All (λ x. place x ≤ n) xs → placed_before xs (suc n) ≡ xs
  before-all xs n each = filter_whole (λ x. nat_lt (place x) (suc n)) xs (λ k d within. let low = each k d within in lt-ltb _ (suc n) (omega (arith, low)))
