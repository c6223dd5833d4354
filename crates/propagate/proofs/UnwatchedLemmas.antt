-- The clauses of which no two literals are watched, as clauses are added and watched anew.
use Rattle.std.proofs.Common.{◌≡◌, ◌∙◌, ap, refl, ℕ, zero, suc, ◌+◌, ◌<◌, ◌≤◌, List, [], ◌∷◌, ◌++◌, length, set, get_or, arith, Option, Some, None}
use Rattle.std.specs.Prelude.{IsSome}
use Rattle.std.proofs.lemmas.List.{get_or_append_left, length_push}
use Rattle.propagate.specs.declared.watch.Watch.{Watch}
use Rattle.propagate.specs.Watching.{unwatched, unwatched_from}

some_none : {p : Watch} → Some p ≡ None → ⊥
some_none e = cc

more_none : (n : ℕ) (xs : List (Option Watch)) (m : ℕ) → m ≡ n + length xs → unwatched_from n (xs ++ None ∷ []) ≡ unwatched_from n xs ++ m ∷ []
more_none n [] m is = ap (λ k. k ∷ []) (omega (arith, is))
more_none n (None ∷ xs) m is = ap (λ ys. n ∷ ys) (more_none (n + 1) xs m (omega (arith, is)))
more_none n (Some p ∷ xs) m is = more_none (n + 1) xs m (omega (arith, is))

more_some : (n : ℕ) (xs : List (Option Watch)) (p : Watch) → unwatched_from n (xs ++ Some p ∷ []) ≡ unwatched_from n xs
more_some n [] p = refl
more_some n (None ∷ xs) p = ap (λ ys. n ∷ ys) (more_some (n + 1) xs p)
more_some n (Some q ∷ xs) p = more_some (n + 1) xs p

-- a clause more of which no two literals are watched, and one of which two are
pub unwatched_more : (xs : List (Option Watch)) (c : ℕ) → c ≡ length xs → unwatched (xs ++ None ∷ []) ≡ unwatched xs ++ c ∷ []
unwatched_more xs c is = more_none 0 xs c (omega (arith, is))

pub unwatched_same : (xs : List (Option Watch)) (r : Option Watch) → (r ≡ None → ⊥) → unwatched (xs ++ r ∷ []) ≡ unwatched xs
unwatched_same xs None watched = absurd (watched refl)
unwatched_same xs (Some p) watched = more_some 0 xs p

-- those there were keep their places
pub unwatched_longer : (xs : List (Option Watch)) (r : Option Watch) → length (unwatched xs) ≤ length (unwatched (xs ++ r ∷ []))
unwatched_longer xs None = omega (arith, ap length (unwatched_more xs (length xs) refl), length_push (unwatched xs) (length xs))
unwatched_longer xs (Some p) = omega (arith, ap length (more_some 0 xs p))

pub unwatched_stays : (xs : List (Option Watch)) (r : Option Watch) (k : ℕ) → k < length (unwatched xs) → get_or (unwatched (xs ++ r ∷ [])) k 0 ≡ get_or (unwatched xs) k 0
unwatched_stays xs None k within = ap (λ (cs : List ℕ). get_or cs k 0) (unwatched_more xs (length xs) refl) ∙ get_or_append_left (unwatched xs) (length xs ∷ []) 0 k within
unwatched_stays xs (Some p) k within = ap (λ (cs : List ℕ). get_or cs k 0) (more_some 0 xs p)

-- a clause that is watched anew
unwatched_set_from : (n : ℕ) (xs : List (Option Watch)) (c : ℕ) (q : Watch) → (get_or xs c None ≡ None → ⊥) → unwatched_from n (set xs c (Some q)) ≡ unwatched_from n xs
unwatched_set_from n [] c q watched = refl
unwatched_set_from n (None ∷ xs) zero q watched = absurd (watched refl)
unwatched_set_from n (Some p ∷ xs) zero q watched = refl
unwatched_set_from n (None ∷ xs) (suc c) q watched = ap (λ ys. n ∷ ys) (unwatched_set_from (n + 1) xs c q watched)
unwatched_set_from n (Some p ∷ xs) (suc c) q watched = unwatched_set_from (n + 1) xs c q watched

not_none : (r : Option Watch) → IsSome r → r ≡ None → ⊥
not_none (Some p) some none = some_none none
not_none None some none = absurd cc

pub unwatched_set : (xs : List (Option Watch)) (i c : ℕ) (q : Watch) → i ≡ c → IsSome (get_or xs c None) → unwatched (set xs i (Some q)) ≡ unwatched xs
unwatched_set xs i c q at some = rw at (unwatched_set_from 0 xs c q (not_none (get_or xs c None) some))

-- each clause of which no two literals are watched is among them
has_from : (n : ℕ) (xs : List (Option Watch)) (c m : ℕ) → c < length xs → m ≡ n + c → get_or xs c None ≡ None → (k : ℕ) × (k < length (unwatched_from n xs)) × (get_or (unwatched_from n xs) k 0 ≡ m)
has_from n [] c m within is none = absurd (omega (arith, within))
has_from n (None ∷ xs) zero m within is none = (0, omega arith, omega (arith, is))
has_from n (Some p ∷ xs) zero m within is none = absurd (some_none none)
has_from n (None ∷ xs) (suc c) m within is none =
    let at = has_from (n + 1) xs c m (omega (arith, within)) (omega (arith, is)) none in
    (suc at.0, omega (arith, at.1), at.2)
has_from n (Some p ∷ xs) (suc c) m within is none = has_from (n + 1) xs c m (omega (arith, within)) (omega (arith, is)) none

pub unwatched_has : (xs : List (Option Watch)) (c : ℕ) → c < length xs → get_or xs c None ≡ None → (k : ℕ) × (k < length (unwatched xs)) × (get_or (unwatched xs) k 0 ≡ c)
unwatched_has xs c within none = has_from 0 xs c c within (omega arith) none

-- they are clauses of the list
below_from : (n : ℕ) (xs : List (Option Watch)) (k : ℕ) → k < length (unwatched_from n xs) → get_or (unwatched_from n xs) k 0 < n + length xs
below_from n [] k within = absurd (omega (arith, within))
below_from n (None ∷ xs) zero within = omega arith
below_from n (None ∷ xs) (suc k) within = let below = below_from (n + 1) xs k (omega (arith, within)) in omega (arith, below)
below_from n (Some p ∷ xs) k within = let below = below_from (n + 1) xs k within in omega (arith, below)

pub unwatched_below : (xs : List (Option Watch)) (k : ℕ) → k < length (unwatched xs) → get_or (unwatched xs) k 0 < length xs
unwatched_below xs k within = let below = below_from 0 xs k within in omega (arith, below)

-- no two literals of them are watched
none_from : (n : ℕ) (xs : List (Option Watch)) (k : ℕ) → k < length (unwatched_from n xs) → (c : ℕ) × (get_or (unwatched_from n xs) k 0 ≡ n + c) × (get_or xs c None ≡ None)
none_from n [] k within = absurd (omega (arith, within))
none_from n (None ∷ xs) zero within = (0, omega arith, refl)
none_from n (None ∷ xs) (suc k) within = let at = none_from (n + 1) xs k (omega (arith, within)) in (suc at.0, omega (arith, at.1), at.2)
none_from n (Some p ∷ xs) k within = let at = none_from (n + 1) xs k within in (suc at.0, omega (arith, at.1), at.2)

pub unwatched_none : (xs : List (Option Watch)) (k : ℕ) → k < length (unwatched xs) → get_or xs (get_or (unwatched xs) k 0) None ≡ None
unwatched_none xs k within =
    let at = none_from 0 xs k within in
    let is : get_or (unwatched xs) k 0 ≡ at.0 = omega (arith, at.1) in
    ap (λ c. get_or xs c None) is ∙ at.2
