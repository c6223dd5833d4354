-- The first gap of a side, and what it says of the rows up to a witness.
use Rattle.std.proofs.Common.{◌≡◌, ◌∙◌, sym, ap, refl, ℕ, ◌<◌, Bool, true, false, not, ◌&&◌, List, length, Option, Some, None, arith, ℤ, inl, inr}
use Rattle.std.specs.Option.{option_map_or}
use Rattle.std.specs.List.{list_any, range_with_len}
use Rattle.std.proofs.lemmas.Int.{ints}
use Rattle.std.proofs.lemmas.Bool.{and_from, and_parts, cases_Bool, not-true, not_from_false}
use Rattle.mt_model.proofs.TruthLemmas.{implies-from, implies-then}
use Rattle.mt_model.specs.Frame.{Frame, reaches, span}
use Rattle.mt_model.proofs.Members.{Among, any_same, all_each, each_all}
use Rattle.mt_model.proofs.PositionLemmas.{below, within_has}
use Rattle.formula_arena.specs.declared.direction.Direction.{Direction}
use Rattle.formula_arena.specs.declared.direction.Direction.TheVariants.{Ahead, Behind}
use Rattle.witness_replay.specs.Directions.{rows_from}
use Rattle.witness_replay.proofs.FirstRows.{IsFirstGap}
use Rattle.std.specs.Cmp.{both_ways}

-- the order of the rows goes along
pub along : (d : Direction) (t : List ℤ) (x y z : ℕ) → (rows_from d t).not_after x y ≡ true → (rows_from d t).not_after y z ≡ true → (rows_from d t).not_after x z ≡ true
along Ahead t x y z h k = grind (arith, ints)
along Behind t x y z h k = grind (arith, ints)

pub points : (d : Direction) (t : List ℤ) → (rows_from d t).points ≡ range_with_len 0 (length t)
points Ahead t = refl
points Behind t = refl

-- the side holds from row e on up to row y exactly where y is not after the first gap
module _ (d : Direction) (t : List ℤ) (test : ℕ → Bool) (e : ℕ) (gap : Option ℕ) (first : IsFirstGap (rows_from d t) test e (length t) gap) where
  abbrev G : Frame ℕ
  G = rows_from d t

  among : (m : ℕ) → Among G.points m → m < length t
  among m in_ = below (length t) m (rw (points d t) at in_)

  at_row : (m : ℕ) → m < length t → Among G.points m
  at_row m within = rw (points d t) (within_has (length t) m within)

  spans-before : (y : ℕ) (g : Option ℕ) → IsFirstGap G test e (length t) g → span G test e y ≡ true → option_map_or (λ m. G.not_after y m) g true ≡ true
  spans-before y None none spans = refl
  spans-before y (Some g) some spans = elim (cases_Bool (G.not_after y g)) [
    | inl is ↦ is
    | inr fails ↦
        let (from_here, broken) = and_parts (G.not_after e g) (not (test g)) some.passed in
        let holds =
        implies-then (G.not_after e g && not (G.not_after y g)) (test g) (all_each _ G.points g spans (at_row g some.within))
        (and_from (G.not_after e g) (not (G.not_after y g)) from_here (not_from_false (G.not_after y g) fails)) in
        let no = not-true (test g) broken in absurd (cc)
  ]

  before-spans : (y : ℕ) (g : Option ℕ) → IsFirstGap G test e (length t) g → option_map_or (λ m. G.not_after y m) g true ≡ true → span G test e y ≡ true
  before-spans y g is before = each_all _ G.points (λ z in_. implies-from (G.not_after e z && not (G.not_after y z)) (test z) (λ both.
      let (from_here, less) = and_parts (G.not_after e z) (not (G.not_after y z)) both in
      elim (cases_Bool (test z)) [
        | inl holds ↦ holds
        | inr fails ↦ absurd (no g is before z (among z in_) from_here (not-true (G.not_after y z) less) fails)
      ]))
    where
      no : (g : Option ℕ) → IsFirstGap G test e (length t) g → option_map_or (λ m. G.not_after y m) g true ≡ true
          → (z : ℕ) → z < length t → G.not_after e z ≡ true → G.not_after y z ≡ false → test z ≡ false → ⊥
      no None none before z within from_here less fails =
          let gap = and_from (G.not_after e z) (not (test z)) from_here (not_from_false (test z) fails) in
          let none' = none z within in cc
      no (Some g) some before z within from_here less fails =
          let gap = and_from (G.not_after e z) (not (test z)) from_here (not_from_false (test z) fails) in
          let more = along d t y g z before (some.first z within gap) in cc

  span-gap : (y : ℕ) → option_map_or (λ m. G.not_after y m) gap true ≡ span G test e y
  span-gap y = both_ways _ _ (before-spans y gap first) (spans-before y gap first)

  -- some row from e on that is near and not after the first gap has the right side
  pub reaches-gap : (near : ℕ → ℕ → Bool) (right : ℕ → Bool)
      → list_any (λ y. G.not_after e y && (near e y && right y && option_map_or (λ m. G.not_after y m) gap true)) (range_with_len 0 (length t)) ≡ reaches G near test right e
  reaches-gap near right = ap (list_any (λ y. G.not_after e y && (near e y && right y && option_map_or (λ m. G.not_after y m) gap true))) (sym (points d t))
      ∙ (any_same G.points G.points (λ y. y) (λ y in_. in_) (λ y in_. (y, in_, refl)) _ _ (λ y in_. rw (span-gap y) refl))
