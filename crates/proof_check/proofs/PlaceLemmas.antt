-- The places of literals in the order of the literals.
use Rattle.std.proofs.Common.{Ordering, ◌≡◌, ◌∙◌, sym, ap, refl, subst, ℕ, zero, suc, ◌+◌, ◌-◌, ◌<◌, ◌≤◌, Bool, true, false, not, ◌&&◌, ltb, inl, inr, List, [], ◌∷◌, length, get_or, take, arith, true≢false}
use Rattle.std.specs.Prelude.{All, Contains}
use Rattle.std.specs.List.{range_with_len}
use Rattle.std.specs.List.Sorted.{IsPartitionedBy, IsPartitionPoint, IsPermutation, IsSortedByKey, IsStableByKey}
use Rattle.std.specs.Cmp.{tied_itself}
use Rattle.std.specs.Ordering.{is_lt, ordering_index}
use Rattle.std.specs.declared.cmp.Ordering.TheVariants.{Less, Equal, Greater}
use Rattle.std.proofs.lemmas.Bool.{cases_lt, le-ltb, ltb-false}
use Rattle.std.proofs.lemmas.List.{get_or_read, length-take-le}
use Rattle.std.proofs.lemmas.List.Elements.{All-cons, All-nil, Contains-get_or}
use Rattle.std.proofs.lemmas.List.FromFn.{get_or-range_with_len, length-range_with_len}
use Rattle.std.proofs.lemmas.List.Sorted.{All-permutation, Contains-permutation, IsStrictWeakOrder-by_number, ranks_by, searchable_from_sorted, ties_stay_sorted}
use Rattle.axiom_rules.specs.declared.literal.Literal.{Literal}
use Rattle.axiom_rules.specs.contracts.literal.LiteralOrd.TheImpl.{cmp-value as literal_cmp}
use Rattle.axiom_rules.specs.contracts.literal.LiteralOrd.TheImpl.Laws.{total-law}
use Rattle.proof_check.specs.Places.{AreSortedPlaces, StandsFirst, comes_before, literal_at}
use Rattle.proof_check.proofs.TakeLemmas.{literals_told}

range_below : (a n m : ℕ) → a + n ≤ m → All (λ k. k < m) (range_with_len a n)
range_below a zero m within = All-nil (λ k. k < m)
range_below a (suc n) m within = All-cons (λ k. k < m) a (range_with_len (a + 1) n) (omega (arith, within)) (range_below (a + 1) n m (omega (arith, within)))

range_has : (n k : ℕ) → k < n → Contains (range_with_len 0 n) k
range_has n k below =
    let size : k < length (range_with_len 0 n) = omega (arith, below, length-range_with_len 0 n) in
    let is : get_or (range_with_len 0 n) k 0 ≡ k = get_or-range_with_len 0 n k 0 below ∙ omega arith in
    subst (λ (x : ℕ). Contains (range_with_len 0 n) x) is (Contains-get_or (range_with_len 0 n) k 0 size)

tied : (o : Ordering) → o ≡ Equal → is_lt o ≡ false
tied o is = ap is_lt is

-- a literal isn't before itself
not_itself : (l m : Literal) → l ≡ m → comes_before l m ≡ false
not_itself l m same = subst (λ (k : Literal). is_lt (literal_cmp.it l k) ≡ false) same (tied (literal_cmp.it l l) (tied_itself total-law l))

-- places that were sorted from the first to the last
pub sorted_from : (lits : List Literal) (n : ℕ) (places : List ℕ) → n ≡ length lits → IsPermutation (range_with_len 0 n) places → IsSortedByKey (literal_at lits) literal_cmp.it places
    → IsStableByKey (literal_at lits) literal_cmp.it (range_with_len 0 n) places → AreSortedPlaces lits places
sorted_from lits n places count moved sorted stable = record {
  within = All-permutation (λ k. k < length lits) (range_with_len 0 n) places moved (range_below 0 n (length lits) (omega (arith, count)));
  each = λ k below. Contains-permutation (range_with_len 0 n) places k moved (range_has n k (omega (arith, below, count)));
  sorted = sorted;
  rising = λ i d low same. ltb-false (get_or places (i + 1) d) (get_or places i d)
      (ties_stay_sorted _ _ (IsStrictWeakOrder-by_number (λ x. x)) (ranks_by total-law (literal_at lits)) (range_with_len 0 n) places up stable i d low
      (tie (literal_at lits (get_or places i d)) (literal_at lits (get_or places (i + 1) d)) same));
}
  where
    up : (k d : ℕ) → 0 ≤ k → k + 1 < length (range_with_len 0 n) → ltb (get_or (range_with_len 0 n) (k + 1) d) (get_or (range_with_len 0 n) k d) ≡ false
    up k d from below =
        let size : k + 1 < n = omega (arith, below, length-range_with_len 0 n) in
        le-ltb (get_or (range_with_len 0 n) (k + 1) d) (get_or (range_with_len 0 n) k d)
        (omega (arith, get_or-range_with_len 0 n (k + 1) d size, get_or-range_with_len 0 n k d (omega (arith, size))))

    tie : (l m : Literal) → l ≡ m → not (comes_before l m) && not (comes_before m l) ≡ true
    tie l m same = rw (not_itself l m same, not_itself m l (sym same)) refl

lower : (o p : Ordering) → ordering_index o ≤ ordering_index p → is_lt p ≡ true → is_lt o ≡ true
lower Less p le is = refl
lower Equal Less le is = absurd (omega (arith, le))
lower Equal Equal le is = is
lower Equal Greater le is = absurd (cc)
lower Greater Less le is = absurd (omega (arith, le))
lower Greater Equal le is = absurd (cc)
lower Greater Greater le is = absurd (cc)

level : (o p : Ordering) → ordering_index o ≤ ordering_index p → is_lt o ≡ false → p ≡ Equal → o ≡ Equal
level Less p le is same = absurd (cc)
level Equal p le is same = refl
level Greater p le is same = absurd (omega (arith, le, ap ordering_index same))

module _ (lits : List Literal) (places : List ℕ) (s : AreSortedPlaces lits places) (l : Literal) where
  abbrev before : ℕ → Bool
  before k = comes_before (literal_at lits k) l

  rises : (i j d : ℕ) → i ≤ j → j < length places → ordering_index (literal_cmp.it (literal_at lits (get_or places i d)) l) ≤ ordering_index (literal_cmp.it (literal_at lits (get_or places j d)) l)
  rises i j d le below = searchable_from_sorted total-law (literal_at lits) places l s.sorted i j d le below

  -- no literal that comes before another comes after one that doesn't
  pub parted : IsPartitionedBy before places
  parted i j d le below is = lower (literal_cmp.it (literal_at lits (get_or places i d)) l) (literal_cmp.it (literal_at lits (get_or places j d)) l) (rises i j d le below) is

  -- where a place stands among the sorted ones
  index_of : (q : ℕ) → q < length lits → (k : ℕ) × (k < length places) × (get_or places k 0 ≡ q)
  index_of q below =
      let (k, low, is) = s.each q below in
      (k, low, sym (get_or_read places k q low (sym is) 0))

  -- literals before the point come before it, and those from it on don't
  module _ (at : ℕ) (point : IsPartitionPoint (λ y. before y ≡ true) (λ y. before y ≡ false) places at) where
    none_before : (k : ℕ) → k < at → literal_at lits (get_or places k 0) ≡ l → ⊥
    none_before k below same = true≢false (sym (point.0 k 0 (omega arith) below) ∙ not_itself (literal_at lits (get_or places k 0)) l same)

    sandwich : (k j : ℕ) → at ≤ k → k ≤ j → j < length places → literal_at lits (get_or places j 0) ≡ l → literal_at lits (get_or places k 0) ≡ l
    sandwich k j from le below same =
        let m = literal_at lits (get_or places k 0) in
        let tied : literal_cmp.it (literal_at lits (get_or places j 0)) l ≡ Equal = ap (λ (x : Literal). literal_cmp.it x l) same ∙ tied_itself total-law l in
        literals_told m l (level (literal_cmp.it m l) (literal_cmp.it (literal_at lits (get_or places j 0)) l) (rises k j 0 le below) (point.1 k 0 from (omega (arith, le, below))) tied)

    rising_from : (n k : ℕ) → k ≡ at + n → k < length places → literal_at lits (get_or places k 0) ≡ l → get_or places at 0 ≤ get_or places k 0
    rising_from zero k is below same = let e : k ≡ at = omega (arith, is) in omega (arith, ap (λ j. get_or places j 0) e)
    rising_from (suc n) k is below same =
        let j = at + n in
        let next : k ≡ j + 1 = omega (arith, is) in
        let low : j + 1 < length places = omega (arith, next, below) in
        let here : literal_at lits (get_or places (j + 1) 0) ≡ l = subst (λ i. literal_at lits (get_or places i 0) ≡ l) next same in
        let earlier : literal_at lits (get_or places j 0) ≡ l = sandwich j (j + 1) (omega arith) (omega arith) low here in
        let step = s.rising j 0 low (earlier ∙ sym here) in
        let before = rising_from n j refl (omega (arith, low)) earlier in
        omega (arith, step, before, ap (λ i. get_or places i 0) next)

    -- the literal at the point stands first at its place
    pub stands_first : (place : ℕ) → at < length places → place ≡ get_or places at 0 → literal_at lits place ≡ l → StandsFirst lits l place
    stands_first place below is same = record { within = within; there = same; first = first }
      where
        within : place < length lits
        within = subst (λ k. k < length lits) (sym is) (s.within at 0 below)

        first : Contains (take place lits) l → ⊥
        first (q, low, there) =
            let short : q < place = omega (arith, low, length-take-le place lits (omega (arith, within))) in
            let at_q : literal_at lits q ≡ l = taken_at lits place q l short (omega (arith, within, short)) there in
            let (k, known, found) = index_of q (omega (arith, within, short)) in
            let here : literal_at lits (get_or places k 0) ≡ l = ap (literal_at lits) found ∙ at_q in
            elim (cases_lt k at) [
              | inl earlier ↦ none_before k earlier here
              | inr from ↦ let up = rising_from (k - at) k (omega (arith, from)) known here in omega (arith, up, is, found, short)
            ]
          where
            taken_at : (ls : List Literal) (n k : ℕ) (m : Literal) → k < n → k < length ls → get_or (take n ls) k m ≡ m → literal_at ls k ≡ m
            taken_at ls zero k m low below is = absurd (omega (arith, low))
            taken_at [] (suc n) k m low below is = absurd (omega (arith, below))
            taken_at (x ∷ xs) (suc n) zero m low below is = is
            taken_at (x ∷ xs) (suc n) (suc k) m low below is = taken_at xs n k m (omega (arith, low)) (omega (arith, below)) is

    -- where another literal is at the point, or none, it stands nowhere
    pub stands_nowhere : (at < length places → literal_at lits (get_or places at 0) ≡ l → ⊥) → Contains lits l → ⊥
    stands_nowhere other (q, low, there) =
        let at_q : literal_at lits q ≡ l = sym (get_or_read lits q l low (sym there) _) in
        let (k, known, found) = index_of q low in
        let here : literal_at lits (get_or places k 0) ≡ l = ap (literal_at lits) found ∙ at_q in
        elim (cases_lt k at) [
          | inl earlier ↦ none_before k earlier here
          | inr from ↦ other (omega (arith, from, known)) (sandwich at k (omega arith) from known here)
        ]

-- a literal that stands first stands in the list
pub first_stands : (lits : List Literal) (l : Literal) (place : ℕ) → StandsFirst lits l place → Contains lits l
first_stands lits l place stands = subst (λ (m : Literal). Contains lits m) stands.there (Contains-get_or lits place _ stands.within)
