-- Lists that go over a range of numbers.
use Rattle.std.proofs.Common.{◌≡◌, ap, refl, ℕ, zero, suc, ◌+◌, ◌*◌, ◌<◌, ◌≤◌, List, [], ◌∷◌, ◌++◌, length, ◌⊎◌, inl, inr, arith}
use Rattle.std.specs.Prelude.{◌≢◌, AllPairs, Contains, slice_index_or, sum_by}
use Rattle.std.specs.List.{flat_map, range_with_len}
use Rattle.std.proofs.Math.Nat.{mul-add, suc-mul}
use Rattle.std.proofs.lemmas.List.Sums.{sum_by-append, sum_by-cons}
use Rattle.mt_model.proofs.Members.{Among}

among-left : {X : Type 0} (xs ys : List X) (x : X) → Among xs x → Among (xs ++ ys) x
among-left [] ys x in_ = absurd in_
among-left (z ∷ xs) ys x (inl here) = inl here
among-left (z ∷ xs) ys x (inr there) = inr (among-left xs ys x there)

among-right : {X : Type 0} (xs ys : List X) (x : X) → Among ys x → Among (xs ++ ys) x
among-right [] ys x in_ = in_
among-right (z ∷ xs) ys x in_ = inr (among-right xs ys x in_)

among-either : {X : Type 0} (xs ys : List X) (x : X) → Among (xs ++ ys) x → Among xs x ⊎ Among ys x
among-either [] ys x in_ = inr in_
among-either (z ∷ xs) ys x (inl here) = inl (inl here)
among-either (z ∷ xs) ys x (inr there) = elim (among-either xs ys x there) [ inl a ↦ inl (inr a) | inr b ↦ inr b ]

pub among-at : {X : Type 0} (xs : List X) (j : ℕ) (d : X) → j < length xs → Among xs (slice_index_or xs j d)
among-at [] j d low = absurd (omega arith)
among-at (x ∷ xs) zero d low = inl refl
among-at (x ∷ xs) (suc j) d low = inr (among-at xs j d (omega arith))

-- what stands in a list has a place there
pub place-of : {X : Type 0} (xs : List X) (x : X) → Among xs x → Contains xs x
place-of [] x in_ = absurd in_
place-of (y ∷ xs) x (inl here) = (0, omega arith, here)
place-of (y ∷ xs) x (inr there) = let (k, low, is) = place-of xs x there in (suc k, omega (arith, low), is)

-- no element stands twice
abbrev pub Apart : {X : Type 0} → List X → Type 0
Apart [] = Unit {0}
Apart (x ∷ xs) = ((y : _) → Among xs y → x ≢ y) × Apart xs

apart-append : {X : Type 0} (xs ys : List X) → Apart xs → Apart ys → ((x y : X) → Among xs x → Among ys y → x ≢ y) → Apart (xs ++ ys)
apart-append [] ys a b h = b
apart-append (x ∷ xs) ys a b h = (
  (λ y in_. elim (among-either xs ys y in_) [ inl left ↦ a.0 y left | inr right ↦ h x y (inl refl) right ]),
  apart-append xs ys a.1 b (λ z y in_ on. h z y (inr in_) on),
)

pub apart-pairs : {X : Type 0} (xs : List X) → Apart xs → AllPairs (λ x y. x ≢ y) xs
apart-pairs [] is i j d less low = absurd (omega arith)
apart-pairs (x ∷ xs) is i zero d less low = absurd (omega arith)
apart-pairs (x ∷ xs) is zero (suc j) d less low = is.0 _ (among-at xs j d (omega arith))
apart-pairs (x ∷ xs) is (suc i) (suc j) d less low = apart-pairs xs is.1 i j d (omega arith) (omega arith)

module _ {X : Type 0} (f : ℕ → List X) where
  -- what stands in the list of some number
  pub among-flat : (a n x : ℕ) (r : X) → a ≤ x → x < a + n → Among (f x) r → Among (flat_map f (range_with_len a n)) r
  among-flat a zero x r low high in_ = absurd (omega arith)
  among-flat a (suc n) x r low high in_ = elim (first_or_later a x low) [
    | inl first ↦ among-left (f a) (flat_map f (range_with_len (a + 1) n)) r (rw (← first) in_)
    | inr later ↦ among-right (f a) (flat_map f (range_with_len (a + 1) n)) r (among-flat (a + 1) n x r later (omega arith) in_)
  ]
    where
      first_or_later : (a x : ℕ) → a ≤ x → (x ≡ a) ⊎ (a + 1 ≤ x)
      first_or_later a x low = grind arith

  pub flat-among : (a n : ℕ) (r : X) → Among (flat_map f (range_with_len a n)) r → (x : ℕ) × (a ≤ x) × (x < a + n) × Among (f x) r
  flat-among a zero r in_ = absurd in_
  flat-among a (suc n) r in_ = elim (among-either (f a) (flat_map f (range_with_len (a + 1) n)) r in_) [
    | inl here ↦ (a, omega arith, omega arith, here)
    | inr there ↦ let (x, low, high, at) = flat-among (a + 1) n r there in (x, omega (arith, low), omega (arith, high), at)
  ]

  -- where the elements tell the number, and none stands twice in the list of a number, none stands twice at all
  pub apart-flat : (key : X → ℕ) → ((x : ℕ) → Apart (f x)) → ((x : ℕ) (r : X) → Among (f x) r → key r ≡ x) → (a n : ℕ) → Apart (flat_map f (range_with_len a n))
  apart-flat key each told a zero = tt
  apart-flat key each told a (suc n) = apart-append (f a) (flat_map f (range_with_len (a + 1) n)) (each a) (apart-flat key each told (a + 1) n) (λ p q in_ on same.
      let (x, low, high, at) = flat-among (a + 1) n q on in
      let first = told a p in_ in
      let later = told x q at in
      let keys : key p ≡ key q = ap key same in
      omega (arith, low, first, later, keys))

  -- nothing, where none of the numbers has anything
  pub flat-nothing : (a n : ℕ) → ((x : ℕ) → a ≤ x → x < a + n → f x ≡ []) → flat_map f (range_with_len a n) ≡ []
  flat-nothing a zero none = refl
  flat-nothing a (suc n) none = rw (none a (omega arith) (omega arith)) (flat-nothing (a + 1) n (λ x low high. none x (omega (arith, low)) (omega (arith, high))))

  -- the first ones are enough where the others have nothing
  pub flat-first : (c n a : ℕ) → c ≤ n → ((x : ℕ) → a + c ≤ x → x < a + n → f x ≡ []) → flat_map f (range_with_len a n) ≡ flat_map f (range_with_len a c)
  flat-first zero n a few none = flat-nothing a n (λ x low high. none x (omega (arith, low)) high)
  flat-first (suc c) zero a few none = absurd (omega (arith, few))
  flat-first (suc c) (suc n) a few none = ap (λ rest. f a ++ rest) (flat-first c n (a + 1) (omega (arith, few)) (λ x low high. none x (omega (arith, low)) (omega (arith, high))))

-- sums over the lists of numbers
module _ {X : Type 0} (w : X → ℕ) (f : ℕ → List X) where
  flat-next : (a n : ℕ) → sum_by w (flat_map f (range_with_len a (suc n))) ≡ sum_by w (f a) + sum_by w (flat_map f (range_with_len (a + 1) n))
  flat-next a n = sum_by-append w (f a) (flat_map f (range_with_len (a + 1) n))

  -- the lists of the numbers before one, and its own, sum up to no more than those of all
  part-from : (a i n : ℕ) → i < n → sum_by w (flat_map f (range_with_len a i)) + sum_by w (f (a + i)) ≤ sum_by w (flat_map f (range_with_len a n))
  part-from a i zero less = absurd (omega arith)
  part-from a zero (suc n) less = let e : a + 0 ≡ a = omega arith in let next = flat-next a n in rw e (omega (arith, next))
  part-from a (suc i) (suc n) less =
      let ih = part-from (a + 1) i n (omega arith) in
      let e : a + 1 + i ≡ a + suc i = omega arith in
      let later = rw e at ih in
      let few = flat-next a i in
      let more = flat-next a n in
      omega (arith, later, few, more)

  pub part-low : (i n : ℕ) → i < n → sum_by w (flat_map f (range_with_len 0 i)) + sum_by w (f i) ≤ sum_by w (flat_map f (range_with_len 0 n))
  part-low i n less = let e : 0 + i ≡ i = omega arith in rw e at (part-from 0 i n less)

  -- where no list sums up to more than m
  pub flat-within : (m a n : ℕ) → ((x : ℕ) → sum_by w (f x) ≤ m) → sum_by w (flat_map f (range_with_len a n)) ≤ n * m
  flat-within m a zero each = omega arith
  flat-within m a (suc n) each =
      let ih = flat-within m (a + 1) n each in
      let more = suc-mul n m in
      let next = flat-next a n in
      omega (arith, ih, each a, more, next)

  -- where the list of each number sums up to no more than m times what is counted of it
  pub flat-by : (count : ℕ → ℕ) (m a n : ℕ) → ((x : ℕ) → sum_by w (f x) ≤ m * count x) → sum_by w (flat_map f (range_with_len a n)) ≤ m * sum_by count (range_with_len a n)
  flat-by count m a zero each = omega arith
  flat-by count m a (suc n) each =
      let ih = flat-by count m (a + 1) n each in
      let next = flat-next a n in
      let sum = sum_by-cons count a (range_with_len (a + 1) n) in
      let apart = mul-add m (count a) (sum_by count (range_with_len (a + 1) n)) in
      rw sum (omega (arith, ih, each a, next, apart))

  -- or of the element that stands at it
  pub flat-places : {T : Type 0} (count : T → ℕ) (d : T) (m a : ℕ) (xs : List T) → ((k : ℕ) → k < length xs → sum_by w (f (a + k)) ≤ m * count (slice_index_or xs k d))
      → sum_by w (flat_map f (range_with_len a (length xs))) ≤ m * sum_by count xs
  flat-places count d m a [] each = omega arith
  flat-places count d m a (x ∷ xs) each =
      let ih = flat-places count d m (a + 1) xs (λ k low. let e : a + suc k ≡ a + 1 + k = omega arith in rw e at (each (suc k) (omega (arith, low)))) in
      let here = let e : a + 0 ≡ a = omega arith in rw e at (each 0 (omega arith)) in
      let next = flat-next a (length xs) in
      let sum = sum_by-cons count x xs in
      let apart = mul-add m (count x) (sum_by count xs) in
      rw sum (omega (arith, ih, here, next, apart))
