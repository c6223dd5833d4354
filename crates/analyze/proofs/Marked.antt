-- Marks, one at a time.
use Rattle.std.proofs.Common.{◌≡◌, ◌∙◌, ap, sym, refl, ℕ, zero, suc, ◌<◌, ◌≤◌, ◌⊎◌, inl, inr, List, [], ◌∷◌, ◌++◌, length, arith, true, false, Some}
use Rattle.std.specs.List.{All, Contains, slice_get}
use Rattle.std.specs.Cmp.{nat_cmp_is}
use Rattle.std.specs.Ordering.{nat_cmp, match_ordering, is_lt}
use Rattle.std.specs.BTreeSet.{insert_key}
use Rattle.std.specs.declared.cmp.Ordering.{Ordering}
use Rattle.std.specs.declared.cmp.Ordering.TheVariants.{Less, Equal, Greater}
use Rattle.std.proofs.lemmas.Bool.{cases_eq, cases_lt}
use Rattle.std.proofs.lemmas.List.Elements.{All-contains, Contains-append_left, Contains-push, Contains-push_cases}
use Rattle.hint_refutation.proofs.Lists.{contains_cases, contains_first, contains_later}
use Rattle.clause_db.specs.declared.lit.Lit.{Lit}
use Rattle.propagate.specs.Trails.{Assigned, entry_at, IsTrail}
use Rattle.analyze.specs.Marks.{AreBelow, HasMarkHere, IsMarkedBy, IsPut}
use Rattle.analyze.specs.Resolving.{level_of}
use Rattle.analyze.proofs.Order.{distinct, rising}

-- how two numbers compare
equal_is : (x y : ℕ) → nat_cmp x y ≡ Equal → x ≡ y
equal_is x y same = elim (cases_eq x y) [
  | inl is ↦ is
  | inr other ↦ elim (cases_lt x y) [
    | inl less ↦ let is = nat_cmp_is x y Less less in absurd cc
    | inr least ↦ let more : y < x = omega (arith, least, other) in let is = nat_cmp_is x y Greater more in absurd cc
  ]
]

less_is : (x y : ℕ) → nat_cmp x y ≡ Less → x < y
less_is x y same = elim (cases_lt x y) [
  | inl less ↦ less
  | inr least ↦ elim (cases_eq x y) [
    | inl is ↦ let at = nat_cmp_is x y Equal is in absurd cc
    | inr other ↦ let more : y < x = omega (arith, least, other) in let at = nat_cmp_is x y Greater more in absurd cc
  ]
]

not_less_is : (x y : ℕ) → is_lt (nat_cmp x y) ≡ false → y ≤ x
not_less_is x y same = elim (cases_lt x y) [
  | inl less ↦ let at : is_lt (nat_cmp x y) ≡ true = rw (← nat_cmp_is x y Less less) refl in absurd cc
  | inr least ↦ least
]

-- the marks that are left are before the one that was taken off
pub below_popped : (p : ℕ) (marked : List ℕ) → All (λ q. nat_cmp q p ≡ Less) marked → AreBelow p marked
below_popped p marked all k has = less_is k p (All-contains (λ (q : ℕ). nat_cmp q p ≡ Less) marked k all has)

-- the greatest mark tells whether one is of the present level
pub last_has : (marked : List ℕ) (n p : ℕ) → slice_get marked n ≡ Some p → Contains marked p
last_has [] n p is = absurd cc
last_has (x ∷ xs) zero p is = let same : x ≡ p = cc in rw same (contains_first p xs)
last_has (x ∷ xs) (suc n) p is = contains_later x p xs (last_has xs n p is)

pub greatest_here : (t : Assigned) → IsTrail t → (marked : List ℕ) (p : ℕ) → AreBelow (length t.entries) marked → Contains marked p
    → All (λ q. is_lt (nat_cmp p q) ≡ false) marked → HasMarkHere t marked → level_of t.entries p ≡ length t.levels
greatest_here t trail marked p within has all (k, at, level) =
    let le = not_less_is p k (All-contains (λ (q : ℕ). is_lt (nat_cmp p q) ≡ false) marked k all at) in
    let p_in = within p has in
    let rises = rising t trail k p le p_in in
    let most = trail.levels.top p p_in in
    omega (arith, rises, most, level)

-- a number that is put into ascending ones stands among them, and so do these
pub inserted : (xs : List ℕ) (k : ℕ) → Contains (insert_key nat_cmp xs k) k
inserted [] k = contains_first k []
inserted (x ∷ xs) k = by (inserted xs k) (nat_cmp k x) refl where
  by : Contains (insert_key nat_cmp xs k) k → (r : Ordering) → nat_cmp k x ≡ r → Contains (match_ordering r (k ∷ x ∷ xs) (x ∷ xs) (x ∷ insert_key nat_cmp xs k)) k
  by rest Less is = contains_first k (x ∷ xs)
  by rest Equal is = rw (equal_is k x is) (contains_first x xs)
  by rest Greater is = contains_later x k (insert_key nat_cmp xs k) rest

pub insert_kept : (xs : List ℕ) (k q : ℕ) → Contains xs q → Contains (insert_key nat_cmp xs k) q
insert_kept [] k q has = absurd (omega (arith, has.1))
insert_kept (x ∷ xs) k q has = by (insert_kept xs k q) (nat_cmp k x) where
  by : (Contains xs q → Contains (insert_key nat_cmp xs k) q) → (r : Ordering) → Contains (match_ordering r (k ∷ x ∷ xs) (x ∷ xs) (x ∷ insert_key nat_cmp xs k)) q
  by rest Less = contains_later k q (x ∷ xs) has
  by rest Equal = has
  by rest Greater = elim (contains_cases x q xs has) [
    | inl is ↦ rw (← is) (contains_first x (insert_key nat_cmp xs k))
    | inr later ↦ contains_later x q (insert_key nat_cmp xs k) (rest later)
  ]

pub insert_only : (xs : List ℕ) (k q : ℕ) → Contains (insert_key nat_cmp xs k) q → Contains xs q ⊎ (k ≡ q)
insert_only [] k q has = elim (contains_cases k q [] has) [ inl is ↦ inr is | inr none ↦ inl none ]
insert_only (x ∷ xs) k q has = by (insert_only xs k q) (nat_cmp k x) has where
  by : (Contains (insert_key nat_cmp xs k) q → Contains xs q ⊎ (k ≡ q)) → (r : Ordering)
      → Contains (match_ordering r (k ∷ x ∷ xs) (x ∷ xs) (x ∷ insert_key nat_cmp xs k)) q → Contains (x ∷ xs) q ⊎ (k ≡ q)
  by rest Less has = elim (contains_cases k q (x ∷ xs) has) [ inl is ↦ inr is | inr old ↦ inl old ]
  by rest Equal has = inl has
  by rest Greater has = elim (contains_cases x q (insert_key nat_cmp xs k) has) [
    | inl is ↦ inl (rw is (contains_first q xs))
    | inr later ↦ elim (rest later) [ inl old ↦ inl (contains_later x q xs old) | inr new ↦ inr new ]
  ]

-- the place of the variable is marked, or it isn't before the given one
module _ (t : Assigned) (trail : IsTrail t) (before v place : ℕ) (within : place < length t.entries) (var : (entry_at t.entries place).lit.var ≡ v) (old new : List ℕ) where
  pub put_place : place < before → new ≡ insert_key nat_cmp old place → IsPut t.entries before v old new
  put_place less is = rw is (record {
    kept = λ k has. insert_kept old place k has;
    added = λ k k_less k_in same. let at = distinct t trail k place k_in within (same ∙ sym var) in rw at (inserted old place);
    only = λ k has. elim (insert_only old place k has) [ inl was ↦ inl was | inr at ↦ inr (rw (← at) less, rw (← at) within, rw (← at) var) ];
  })

pub marked_more : (t : Assigned) (before : ℕ) (front : List Lit) (x : Lit) (old new newer : List ℕ) → IsMarkedBy t.entries before front old new
    → IsPut t.entries before x.var new newer → IsMarkedBy t.entries before (front ++ x ∷ []) old newer
marked_more t before front x old new newer by put = record {
  kept = λ k has. put.kept k (by.kept k has);
  added = λ k l less within has same. elim (Contains-push_cases front x l has) [
    | inl earlier ↦ put.kept k (by.added k l less within earlier same)
    | inr is ↦ put.added k less within (same ∙ ap (λ (y : Lit). y.var) (sym is))
  ];
  only = λ k has. elim (put.only k has) [
    | inl was ↦ elim (by.only k was) [ inl o ↦ inl o | inr w ↦ inr (w.0, w.1, (w.2.0, Contains-append_left front (x ∷ []) w.2.0 w.2.1, w.2.2)) ]
    | inr at ↦ inr (at.0, at.1, (x, Contains-push front x, at.2))
  ];
}
