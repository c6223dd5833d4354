-- The positions are the rows' times, each once and rising.
use Rattle.std.proofs.Common.{◌≡◌, ◌∙◌, sym, ap, refl, subst, ℕ, zero, suc, ◌+◌, ◌<◌, ◌≤◌, true, false, List, [], ◌∷◌, length, ◌⊎◌, inl, inr, arith, ℤ, ◌≤ℤ◌, ◌<ℤ◌}
use Rattle.std.specs.Prelude.{int_lt, int_le, nat_le}
use Rattle.std.specs.List.{range_with_len}
use Rattle.std.proofs.lemmas.Int.{ints}
use Rattle.std.proofs.lemmas.Bool.{cases_Bool, cases_order}
use Rattle.std.proofs.lemmas.Bool.Decides.{nat_tests}
use Rattle.mt_model.specs.Form.{Form}
use Rattle.mt_model.specs.Log.{Logged}
use Rattle.mt_model.specs.Timing.{time_of}
use Rattle.mt_model.specs.Positions.{put, positions_of, index_of, place_of}
use Rattle.mt_model.specs.Truth.{positions_in, rows_in, truth, truth_of}
use Rattle.mt_model.proofs.Members.{Among}
use Rattle.mt_model.proofs.FrameLemmas.{Carries, truth_same}

cases_int : (x y : ℤ) → (x <ℤ y) ⊎ ((y <ℤ x) ⊎ (x ≡ y))
cases_int x y = elim (cases_Bool (int_lt x y)) [
  | inl e ↦ inl (omega (arith, ints))
  | inr e ↦ elim (cases_Bool (int_lt y x)) [
    | inl d ↦ inr (inl (omega (arith, ints)))
    | inr d ↦ inr (inr (omega (arith, ints)))
  ]
]

-- the three cases of `put`
put-less : (x p : ℤ) (ps : List ℤ) → x <ℤ p → put x (p ∷ ps) ≡ x ∷ p ∷ ps
put-less x p ps less = let e : int_lt x p ≡ true = grind (arith, ints) in rw e refl

put-more : (x p : ℤ) (ps : List ℤ) → p <ℤ x → put x (p ∷ ps) ≡ p ∷ put x ps
put-more x p ps more = let e : int_lt x p ≡ false = grind (arith, ints) in let d : int_lt p x ≡ true = grind (arith, ints) in rw (e, d) refl

put-equal : (x p : ℤ) (ps : List ℤ) → x ≡ p → put x (p ∷ ps) ≡ p ∷ ps
put-equal x p ps same = let e : int_lt x p ≡ false = grind (arith, ints) in let d : int_lt p x ≡ false = grind (arith, ints) in rw (e, d) refl

pub put-has : (x : ℤ) (ps : List ℤ) → Among (put x ps) x
put-has x [] = inl refl
put-has x (p ∷ ps) = elim (cases_int x p) [
  | inl less ↦ rw (put-less x p ps less) (inl refl)
  | inr (inl more) ↦ rw (put-more x p ps more) (inr (put-has x ps))
  | inr (inr same) ↦ rw (put-equal x p ps same) (inl (sym same))
]

pub put-keeps : (x : ℤ) (ps : List ℤ) (y : ℤ) → Among ps y → Among (put x ps) y
put-keeps x [] y in_ = absurd in_
put-keeps x (p ∷ ps) y in_ = elim (cases_int x p) [
  | inl less ↦ rw (put-less x p ps less) (inr in_)
  | inr (inl more) ↦ rw (put-more x p ps more) (elim in_ [ inl same ↦ inl same | inr later ↦ inr (put-keeps x ps y later) ])
  | inr (inr same) ↦ rw (put-equal x p ps same) in_
]

pub put-only : (x : ℤ) (ps : List ℤ) (y : ℤ) → Among (put x ps) y → (x ≡ y) ⊎ Among ps y
put-only x [] y in_ = elim in_ [ inl same ↦ inl same | inr later ↦ absurd later ]
put-only x (p ∷ ps) y in_ = elim (cases_int x p) [
  | inl less ↦ rw (put-less x p ps less) at in_
  | inr (inl more) ↦ later_only (put-only x ps y) (rw (put-more x p ps more) at in_)
  | inr (inr same) ↦ inr (rw (put-equal x p ps same) at in_)
]
  where
    later_only : (Among (put x ps) y → (x ≡ y) ⊎ Among ps y) → (p ≡ y) ⊎ Among (put x ps) y → (x ≡ y) ⊎ ((p ≡ y) ⊎ Among ps y)
    later_only ih (inl same) = inr (inl same)
    later_only ih (inr later) = elim (ih later) [ inl same ↦ inl same | inr old ↦ inr (inr old) ]

pub positions-have : (t : List ℤ) (y : ℤ) → Among t y → Among (positions_of t) y
positions-have [] y in_ = absurd in_
positions-have (x ∷ xs) y in_ = elim in_ [
  | inl same ↦ subst (λ z. Among (put x (positions_of xs)) z) same (put-has x (positions_of xs))
  | inr later ↦ put-keeps x (positions_of xs) y (positions-have xs y later)
]

pub positions-only : (t : List ℤ) (y : ℤ) → Among (positions_of t) y → Among t y
positions-only [] y in_ = absurd in_
positions-only (x ∷ xs) y in_ = elim (put-only x (positions_of xs) y in_) [ inl same ↦ inl same | inr later ↦ inr (positions-only xs y later) ]

-- strictly rising
abbrev pub IsRising : List ℤ → Type 0
IsRising [] = Unit {0}
IsRising (p ∷ ps) = ((y : ℤ) → Among ps y → p <ℤ y) × IsRising ps

put-rises : (x : ℤ) (ps : List ℤ) → IsRising ps → IsRising (put x ps)
put-rises x [] rising = ((λ y in_. absurd in_), tt)
put-rises x (p ∷ ps) rising = elim (cases_int x p) [
  | inl less ↦ rw (put-less x p ps less) (above less, rising)
  | inr (inl more) ↦ rw (put-more x p ps more) (below more, put-rises x ps rising.1)
  | inr (inr same) ↦ rw (put-equal x p ps same) rising
]
  where
    above : x <ℤ p → (y : ℤ) → Among (p ∷ ps) y → x <ℤ y
    above less y (inl same) = omega (arith, ints)
    above less y (inr later) = omega (arith, ints, rising.0 y later)

    below : p <ℤ x → (y : ℤ) → Among (put x ps) y → p <ℤ y
    below more y in_ = elim (put-only x ps y in_) [ inl same ↦ omega (arith, ints) | inr old ↦ rising.0 y old ]

pub positions-rise : (t : List ℤ) → IsRising (positions_of t)
positions-rise [] = tt
positions-rise (x ∷ xs) = put-rises x (positions_of xs) (positions-rise xs)

pub among_at : (ps : List ℤ) (i : ℕ) → i < length ps → Among ps (time_of ps i)
among_at [] i within = absurd (omega arith)
among_at (p ∷ ps) zero within = inl refl
among_at (p ∷ ps) (suc i) within = inr (among_at ps i (omega arith))

pub at_among : (ps : List ℤ) (y : ℤ) → Among ps y → (i : ℕ) × (i < length ps) × (time_of ps i ≡ y)
at_among [] y in_ = absurd in_
at_among (p ∷ ps) y in_ = elim in_ [
  | inl same ↦ (zero, omega arith, same)
  | inr later ↦ let (i, within, is) = at_among ps y later in (suc i, omega arith, is)
]

pub rises_at : (ps : List ℤ) → IsRising ps → (i j : ℕ) → i < j → j < length ps → time_of ps i <ℤ time_of ps j
rises_at [] rising i j less within = absurd (omega arith)
rises_at (p ∷ ps) rising i zero less within = absurd (omega arith)
rises_at (p ∷ ps) rising zero (suc j) less within = rising.0 (time_of ps j) (among_at ps j (omega arith))
rises_at (p ∷ ps) rising (suc i) (suc j) less within = rises_at ps rising.1 i j (omega arith) (omega arith)

pub order_same : (ps : List ℤ) → IsRising ps → (i j : ℕ) → i < length ps → j < length ps → nat_le i j ≡ int_le (time_of ps i) (time_of ps j)
order_same ps rising i j a b = elim (cases_order i j) [
  | inl same ↦ rw same (grind (arith, ints, nat_tests))
  | inr (inl less) ↦ let h = rises_at ps rising i j less b in grind (arith, ints, nat_tests)
  | inr (inr more) ↦ let h = rises_at ps rising j i more a in grind (arith, ints, nat_tests)
]

pub range_has : (n a k : ℕ) → a ≤ k → k < a + n → Among (range_with_len a n) k
range_has zero a k low high = absurd (omega arith)
range_has (suc n) a k low high = elim (cases_order a k) [
  | inl same ↦ inl same
  | inr (inl less) ↦ inr (range_has n (a + 1) k (omega arith) (omega arith))
  | inr (inr more) ↦ absurd (omega arith)
]

pub range_only : (n a k : ℕ) → Among (range_with_len a n) k → (a ≤ k) × (k < a + n)
range_only zero a k in_ = absurd in_
range_only (suc n) a k in_ = elim in_ [
  | inl same ↦ (omega arith, omega arith)
  | inr later ↦ let (low, high) = range_only n (a + 1) k later in (omega arith, omega arith)
]

-- an index is known by its position
pub index_same : (ps : List ℤ) → IsRising ps → (i j : ℕ) → i < length ps → j < length ps → time_of ps i ≡ time_of ps j → i ≡ j
index_same ps rising i j a b same = elim (cases_order i j) [
  | inl is ↦ is
  | inr (inl less) ↦ let h = rises_at ps rising i j less b in absurd (omega (arith, ints))
  | inr (inr more) ↦ let h = rises_at ps rising j i more a in absurd (omega (arith, ints))
]

pub below : (n k : ℕ) → Among (range_with_len 0 n) k → k < n
below n k in_ = let both = range_only n 0 k in_ in omega arith

pub within_has : (n k : ℕ) → k < n → Among (range_with_len 0 n) k
within_has n k h = range_has n 0 k (omega arith) (omega arith)

pub index-of : (ps : List ℤ) (u : ℤ) → IsRising ps → Among ps u → (index_of ps u < length ps) × (time_of ps (index_of ps u) ≡ u)
index-of [] u rising in_ = absurd in_
index-of (p ∷ ps) u rising (inl same) = let e : int_lt p u ≡ false = grind (arith, ints) in rw e (omega arith, same)
index-of (p ∷ ps) u rising (inr later) =
    let less = rising.0 u later in
    let e : int_lt p u ≡ true = grind (arith, ints) in
    let rest = index-of ps u rising.1 later in
    rw e (omega arith, rest.1)

module _ (t : List ℤ) where
  -- the place of a row is the index of its time
  pub place-of_row : (e : ℕ) → e < length t → (place_of t e < length (positions_of t)) × (time_of (positions_of t) (place_of t e) ≡ time_of t e)
  place-of_row e within = index-of (positions_of t) (time_of t e) (positions-rise t) (positions-have t _ (among_at t e within))

  -- each position is the time of a row
  pub row-at_position : (i : ℕ) → i < length (positions_of t) → (e : ℕ) × (e < length t) × (time_of t e ≡ time_of (positions_of t) i)
  row-at_position i within = at_among t (time_of (positions_of t) i) (positions-only t _ (among_at (positions_of t) i within))

  pub rows_to_places : Carries (rows_in t) (positions_in (positions_of t)) (place_of t)
  rows_to_places = record {
    into = λ e a. within_has _ _ (place-of_row e (below _ e a)).0;
    onto = λ i b. row_at i (below _ i b) (row-at_position i (below _ i b));
    not_after = λ e f a b.
        let x = place-of_row e (below _ e a) in
        let y = place-of_row f (below _ f b) in
        sym (order_same (positions_of t) (positions-rise t) (place_of t e) (place_of t f) x.0 y.0 ∙ rw (x.1, y.1) refl);
    instant = λ e a. sym (place-of_row e (below _ e a)).1;
  } where
    row_at : (i : ℕ) → i < length (positions_of t) → (e : ℕ) × (e < length t) × (time_of t e ≡ time_of (positions_of t) i) → (e : ℕ) × Among (range_with_len 0 (length t)) e × (place_of t e ≡ i)
    row_at i high (e, within, is) = (e, within_has _ e within, index_same (positions_of t) (positions-rise t) (place_of t e) i (place-of_row e within).0 high ((place-of_row e within).1 ∙ is))

  -- truth at a row is truth at its place
  pub truth_of-place : (log : Logged) (f : Form) (e : ℕ) → e < length t → truth_of log t e f ≡ truth log t (place_of t e) f
  truth_of-place log f e within = truth_same log t (rows_in t) (positions_in (positions_of t)) (place_of t) rows_to_places f e (within_has _ e within)

  -- a row that no row is earlier than is at the first position
  pub place-of_first : (e : ℕ) → e < length t → ((k : ℕ) → k < length t → time_of t e ≤ℤ time_of t k) → place_of t e ≡ 0
  place-of_first e within first = go (place_of t e) refl
    where
      go : (i : ℕ) → place_of t e ≡ i → place_of t e ≡ 0
      go zero is = is
      go (suc i) is =
          let here = place-of_row e within in
          let (k, high, was) = row-at_position 0 (omega (arith, here.0)) in
          let earlier = rises_at (positions_of t) (positions-rise t) 0 (place_of t e) (omega arith) here.0 in
          absurd (omega (arith, ints, first k high, earlier, here.1, was))

  pub truth_of-first : (log : Logged) (f : Form) (e : ℕ) → e < length t → ((k : ℕ) → k < length t → time_of t e ≤ℤ time_of t k) → truth_of log t e f ≡ truth log t 0 f
  truth_of-first log f e within first = truth_of-place log f e within ∙ ap (λ i. truth log t i f) (place-of_first e within first)
