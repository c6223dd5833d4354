-- The lines that are marked, one after another.
use Rattle.std.proofs.Common.{◌≡◌, ◌∙◌, ap, sym, refl, ℕ, zero, suc, ◌-◌, ◌<◌, ◌≤◌, Bool, true, false, List, [], ◌∷◌, ◌++◌, length, get_or, set, take, Some, inl, inr, arith, true≢false}
use Rattle.std.proofs.lemmas.Option.{get_or_from_slice_get, slice_get-get_or}
use Rattle.std.specs.Prelude.{◌⊎◌, slice_get, replicate}
use Rattle.proof_log.specs.declared.line.Line.{Line}
use Rattle.proof_log.specs.Marks.{marked}
use Rattle.proof_trim.specs.Trimmed.{IsMarked}

-- how many of the first lines are marked
abbrev pub before : List Bool → List Line → ℕ → ℕ
before marks lines i = length (marked (take i marks) lines)

-- a marked line stands after those before it
pub marked-at : (marks : List Bool) (lines : List Line) (i : ℕ) → slice_get marks i ≡ Some true → slice_get (marked marks lines) (before marks lines i) ≡ slice_get lines i
marked-at [] lines i is = let never : ⊥ = cc in absurd never
marked-at (mark ∷ marks) [] i is = refl
marked-at (true ∷ marks) (l ∷ lines) zero is = refl
marked-at (true ∷ marks) (l ∷ lines) (suc i) is = marked-at marks lines i is
marked-at (false ∷ marks) (l ∷ lines) zero is = let never : ⊥ = cc in absurd never
marked-at (false ∷ marks) (l ∷ lines) (suc i) is = marked-at marks lines i is

-- each of these is a marked line
pub marked-from : (marks : List Bool) (lines : List Line) (k : ℕ) → k < length (marked marks lines) → (i : ℕ) × (slice_get marks i ≡ Some true) × (before marks lines i ≡ k)
marked-from [] lines k within = let never : ⊥ = omega arith in absurd never
marked-from (mark ∷ marks) [] k within = let never : ⊥ = omega arith in absurd never
marked-from (true ∷ marks) (l ∷ lines) zero within = (zero, refl, refl)
marked-from (true ∷ marks) (l ∷ lines) (suc k) within = let (i, is, at) = marked-from marks lines k (omega arith) in (suc i, is, ap suc at)
marked-from (false ∷ marks) (l ∷ lines) k within = let (i, is, at) = marked-from marks lines k within in (suc i, is, at)

-- one more is marked
pub marked-yes : (marks : List Bool) (lines : List Line) (i : ℕ) (l : Line) → slice_get marks i ≡ Some true → slice_get lines i ≡ Some l
    → marked (take (suc i) marks) lines ≡ marked (take i marks) lines ++ l ∷ []
marked-yes [] lines i l is stands = let never : ⊥ = cc in absurd never
marked-yes (mark ∷ marks) [] i l is stands = let never : ⊥ = cc in absurd never
marked-yes (true ∷ marks) (k ∷ lines) zero l is stands = ap (λ x. x ∷ []) cc
marked-yes (true ∷ marks) (k ∷ lines) (suc i) l is stands = ap (λ ls. k ∷ ls) (marked-yes marks lines i l is stands)
marked-yes (false ∷ marks) (k ∷ lines) zero l is stands = let never : ⊥ = cc in absurd never
marked-yes (false ∷ marks) (k ∷ lines) (suc i) l is stands = marked-yes marks lines i l is stands

-- one is not
pub marked-no : (marks : List Bool) (lines : List Line) (i : ℕ) → slice_get marks i ≡ Some false → marked (take (suc i) marks) lines ≡ marked (take i marks) lines
marked-no [] lines i is = let never : ⊥ = cc in absurd never
marked-no (mark ∷ marks) [] zero is = refl
marked-no (mark ∷ marks) [] (suc i) is = refl
marked-no (true ∷ marks) (k ∷ lines) zero is = let never : ⊥ = cc in absurd never
marked-no (true ∷ marks) (k ∷ lines) (suc i) is = ap (λ ls. k ∷ ls) (marked-no marks lines i is)
marked-no (false ∷ marks) (k ∷ lines) zero is = refl
marked-no (false ∷ marks) (k ∷ lines) (suc i) is = marked-no marks lines i is

-- a marked line counts among those up to it
pub before-next : (marks : List Bool) (lines : List Line) (i : ℕ) → slice_get marks i ≡ Some true → i < length lines → before marks lines (suc i) ≡ suc (before marks lines i)
before-next [] lines i is within = let never : ⊥ = cc in absurd never
before-next (mark ∷ marks) [] i is within = let never : ⊥ = omega arith in absurd never
before-next (true ∷ marks) (l ∷ lines) zero is within = refl
before-next (true ∷ marks) (l ∷ lines) (suc i) is within = ap suc (before-next marks lines i is (omega arith))
before-next (false ∷ marks) (l ∷ lines) zero is within = let never : ⊥ = cc in absurd never
before-next (false ∷ marks) (l ∷ lines) (suc i) is within = before-next marks lines i is (omega arith)

-- there are no fewer up to a later line
pub before-grows : (marks : List Bool) (lines : List Line) (i j : ℕ) → i ≤ j → before marks lines i ≤ before marks lines j
before-grows [] lines zero j less = omega arith
before-grows [] lines (suc i) zero less = omega arith
before-grows [] lines (suc i) (suc j) less = omega arith
before-grows (mark ∷ marks) [] zero j less = omega arith
before-grows (mark ∷ marks) [] (suc i) zero less = omega arith
before-grows (mark ∷ marks) [] (suc i) (suc j) less = omega arith
before-grows (mark ∷ marks) (l ∷ lines) zero j less = omega arith
before-grows (mark ∷ marks) (l ∷ lines) (suc i) zero less = let never : ⊥ = omega arith in absurd never
before-grows (true ∷ marks) (l ∷ lines) (suc i) (suc j) less = let rest : before marks lines i ≤ before marks lines j = before-grows marks lines i j (omega arith) in omega arith
before-grows (false ∷ marks) (l ∷ lines) (suc i) (suc j) less = before-grows marks lines i j (omega arith)

-- of the first lines at most all are marked
pub before-le : (marks : List Bool) (lines : List Line) (i : ℕ) → before marks lines i ≤ i
before-le [] lines zero = omega arith
before-le [] lines (suc i) = omega arith
before-le (mark ∷ marks) [] zero = omega arith
before-le (mark ∷ marks) [] (suc i) = omega arith
before-le (mark ∷ marks) (l ∷ lines) zero = omega arith
before-le (true ∷ marks) (l ∷ lines) (suc i) = let rest = before-le marks lines i in omega (arith, rest)
before-le (false ∷ marks) (l ∷ lines) (suc i) = let rest = before-le marks lines i in omega (arith, rest)

-- ---- one mark is set

pub set-there : (marks : List Bool) (i : ℕ) → i < length marks → IsMarked (set marks i true) (suc i)
set-there [] i within = let never : ⊥ = omega arith in absurd never
set-there (mark ∷ marks) zero within = refl
set-there (mark ∷ marks) (suc i) within = set-there marks i (omega arith)

pub set-only : (marks : List Bool) (i n : ℕ) → IsMarked (set marks i true) n → IsMarked marks n ⊎ (n ≡ suc i)
set-only marks i zero is = inl is
set-only [] i (suc n) is = inl is
set-only (mark ∷ marks) zero (suc zero) is = inr refl
set-only (mark ∷ marks) zero (suc (suc n)) is = inl is
set-only (mark ∷ marks) (suc i) (suc zero) is = inl is
set-only (mark ∷ marks) (suc i) (suc (suc n)) is = elim (set-only marks i (suc n) is) [ inl old ↦ inl old | inr same ↦ inr (ap suc same) ]

-- none is set yet
pub none-marked : (count n : ℕ) → IsMarked (replicate count false) n → ⊥
none-marked count zero is = cc
none-marked zero (suc n) is = cc
none-marked (suc count) (suc zero) is = cc
none-marked (suc count) (suc (suc n)) is = none-marked count (suc n) is

-- ---- the mark of a line, as it is read

pub marked-there : (marks : List Bool) (i : ℕ) (d : Bool) → 1 ≤ i → i ≤ length marks → get_or marks (i - 1) d ≡ true → IsMarked marks i
marked-there marks zero d some within is = let never : ⊥ = omega arith in absurd never
marked-there marks (suc j) d some within is = let back : suc j - 1 ≡ j = omega arith in slice_get-get_or marks j d (omega (arith, within)) ∙ ap Some (ap (λ n. get_or marks n d) (sym back) ∙ is)

pub not-marked : (marks : List Bool) (i : ℕ) (d : Bool) → get_or marks (i - 1) d ≡ false → IsMarked marks i → ⊥
not-marked marks zero d is marked = cc
not-marked marks (suc j) d is marked =
    let back : suc j - 1 ≡ j = omega arith in
    let yes = get_or_from_slice_get marks j true d marked in
    true≢false (sym yes ∙ ap (λ n. get_or marks n d) (sym back) ∙ is)
