-- Lemmas of lists that several crates use.
use Rattle.std.proofs.Common.{◌≡◌, ◌∙◌, ap, refl, ℕ, zero, suc, ◌+◌, ◌<◌, Bool, true, inl, inr, eqb, List, [], ◌∷◌, ◌++◌, length, map, Option, Some, arith}
use Rattle.std.specs.Prelude.{All, filter, slice_get}
use Rattle.std.specs.List.{cons_option, filter_map, list_any, range_with_len}
use Rattle.std.proofs.lemmas.Bool.{eqb-true, or_cases}
use Rattle.std.proofs.lemmas.Bool.Decides.{nat_tests}
use Rattle.std.proofs.lemmas.List.Elements.{All-head, All-tail, filter_map-append}

-- The parts of a list.

pub parts_same : {X : Type 0} (x y : X) (xs ys : List X) → x ∷ xs ≡ y ∷ ys → (x ≡ y) × (xs ≡ ys)
parts_same x y xs ys same = (cc, cc)

pub got_last : {X : Type 0} (xs : List X) (x : X) → slice_get (xs ++ x ∷ []) (length xs) ≡ Some x
got_last [] x = refl
got_last (y ∷ xs) x = got_last xs x

pub got_kept : {X : Type 0} (xs ys : List X) (n : ℕ) (x : X) → slice_get xs n ≡ Some x → slice_get (xs ++ ys) n ≡ Some x
got_kept [] ys n x is = absurd (cc)
got_kept (y ∷ xs) ys zero x is = is
got_kept (y ∷ xs) ys (suc n) x is = got_kept xs ys n x is

-- What passes a test, and what is given.

pub filter_whole : {X : Type 0} (p : X → Bool) (xs : List X) → All (λ x. p x ≡ true) xs → filter p xs ≡ xs
filter_whole p [] passes = refl
filter_whole p (x ∷ xs) passes = rw (All-head (λ y. p y ≡ true) x xs passes) (ap (λ ys. x ∷ ys) (filter_whole p xs (All-tail (λ y. p y ≡ true) x xs passes)))

pub found_same : {X : Type 0} (xs ys : List X) → map Some xs ≡ map Some ys → xs ≡ ys
found_same [] [] same = refl
found_same [] (y ∷ ys) same = cc
found_same (x ∷ xs) [] same = cc
found_same (x ∷ xs) (y ∷ ys) same =
    let later : map Some xs ≡ map Some ys = cc in
    let rest = found_same xs ys later in
    cc

-- Numbers from a on, and numbers below n.

pub range_more : (a k : ℕ) → range_with_len a (k + 1) ≡ range_with_len a k ++ (a + k) ∷ []
range_more a zero = let e : a + 0 ≡ a = omega arith in rw e refl
range_more a (suc k) =
    let ih = range_more (a + 1) k in
    let e : a + 1 + k ≡ a + suc k = omega arith in
    let n : suc k + 1 ≡ suc (k + 1) = omega arith in
    rw (n, ih, e) refl

pub given_more : {X : Type 0} (h : ℕ → Option X) (k : ℕ) → filter_map h (range_with_len 0 (k + 1)) ≡ filter_map h (range_with_len 0 k) ++ cons_option (h k) []
given_more h k =
    let e : 0 + k ≡ k = omega arith in
    ap (filter_map h) (range_more 0 k) ∙ filter_map-append h (range_with_len 0 k) ((0 + k) ∷ []) ∙ rw e refl

pub first_below : {n : ℕ} (q a : ℕ) → a < n → eqb q a ≡ true → q < n
first_below q a start e = grind (arith, nat_tests)

pub stands_below : (n : ℕ) (xs : List ℕ) → All (λ x. x < n) xs → (q : ℕ) → list_any (eqb q) xs ≡ true → q < n
stands_below n [] each q found = absurd (cc)
stands_below n (x ∷ xs) each q found = elim (or_cases (eqb q x) (list_any (eqb q) xs) found) [
  | inl same ↦ let is = eqb-true q x same in rw is (each 0 0 (omega arith))
  | inr rest ↦ stands_below n xs (λ k d within. each (suc k) d (omega arith)) q rest
]
