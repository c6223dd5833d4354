-- The item between two parts of a list, and the place that a search finds.
use Rattle.std.proofs.Common.{◌≡◌, refl, subst, arith, cond, ℕ, suc, ◌+◌, ◌<◌, ◌≤◌, Bool, true, false, List, [], ◌∷◌, ◌++◌, length, length-append, get_or, Some, None}
use Rattle.std.specs.Prelude.{All, AllPairs, not, position, nat_lt}
use Rattle.std.specs.List.{position_or_len}
use Rattle.std.proofs.lemmas.Bool.Decides.{nat_tests}
use Rattle.std.proofs.lemmas.List.{get_or_at, get_or_append_left}
use Rattle.std.proofs.lemmas.List.Elements.{All-cons, All-nil}
use Rattle.std.proofs.lemmas.List.Sums.{position_or_len_is}

-- what holds of each item holds of the one in the middle
pub All-middle : {X : Type 0} (P : X → Type 0) (xs : List X) (y : X) (ys : List X) → All P (xs ++ y ∷ ys) → P y
All-middle P xs y ys all = subst P (get_or_at xs y ys y (length xs) refl) (all (length xs) y (omega (arith, length-append xs (y ∷ ys))))

-- what holds of each two items holds of each one before the middle and that
pub AllPairs-middle : {X : Type 0} (R : X → X → Type 0) (xs : List X) (y : X) (ys : List X) → AllPairs R (xs ++ y ∷ ys) → All (λ x. R x y) xs
AllPairs-middle R xs y ys pairs k d within =
    let both = pairs k (length xs) d within (omega (arith, length-append xs (y ∷ ys))) in
    rw (get_or_append_left xs (y ∷ ys) d k within, get_or_at xs y ys d (length xs) refl) at both

-- the first place that passes is the one that is found
pub position-found : {X : Type 0} (p : X → Bool) (xs : List X) (i : ℕ) (d : X) → i < length xs → ((k : ℕ) → k < i → p (get_or xs k d) ≡ false) → p (get_or xs i d) ≡ true → position p xs ≡ Some i
position-found p xs i d within before here =
    let at : position_or_len p xs ≡ i = position_or_len_is p xs i d (omega arith) before (λ _. here) in
    let test : nat_lt i (length xs) ≡ true = grind (arith, nat_tests) in
    rw (at, test) refl

-- where no item passes, none is found
pub position-none : {X : Type 0} (p : X → Bool) (xs : List X) (d : X) → All (λ x. p x ≡ false) xs → position p xs ≡ None
position-none p xs d none =
    let at : position_or_len p xs ≡ length xs = position_or_len_is p xs (length xs) d (omega arith) (λ k within. none k d within) (λ more. absurd (omega arith)) in
    let test : nat_lt (length xs) (length xs) ≡ false = grind (arith, nat_tests) in
    rw (at, test) refl

prefix_step : {X : Type 0} (p : X → Bool) (x : X) (xs : List X) (b : Bool) → p x ≡ b → (length xs ≤ position_or_len p xs → All (λ x. p x ≡ false) xs)
    → suc (length xs) ≤ cond (not b) (1 + position_or_len p xs) 0 → All (λ x. p x ≡ false) (x ∷ xs)
prefix_step p x xs true is rest all = absurd (omega arith)
prefix_step p x xs false is rest all = All-cons (λ x. p x ≡ false) x xs is (rest (omega arith))

prefix_all : {X : Type 0} (p : X → Bool) (xs : List X) → length xs ≤ position_or_len p xs → All (λ x. p x ≡ false) xs
prefix_all p [] all = All-nil (λ x. p x ≡ false)
prefix_all p (x ∷ xs) all = prefix_step p x xs (p x) refl (prefix_all p xs) all

-- no element passes where none is found
pub All-position_none : {X : Type 0} (p : X → Bool) (xs : List X) → position p xs ≡ None → All (λ x. p x ≡ false) xs
All-position_none p xs none = prefix_all p xs (let at = position_or_len p xs in grind (arith, nat_tests))
