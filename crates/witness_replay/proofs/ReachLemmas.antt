-- Until and since at a row, from the nearest candidate and the first gap.
use Rattle.std.proofs.Common.{◌≡◌, ◌∙◌, refl, ℕ, ◌<◌, Bool, true, ◌&&◌, List, length, Option, Some, None, arith, ℤ}
use Rattle.std.specs.Prelude.{int_le, pos}
use Rattle.std.specs.Option.{option_map_or}
use Rattle.std.specs.List.{list_any, range_with_len}
use Rattle.std.proofs.lemmas.Bool.{and_from, and_parts}
use Rattle.std.proofs.lemmas.Int.{ints}
use Rattle.mt_model.specs.declared.tree.Interval.{Interval}
use Rattle.mt_model.specs.Frame.{Frame, is_in}
use Rattle.mt_model.proofs.Members.{any_some, some_any}
use Rattle.mt_model.proofs.PositionLemmas.{below, within_has}
use Rattle.formula_arena.specs.declared.direction.Direction.{Direction}
use Rattle.formula_arena.specs.declared.direction.Direction.TheVariants.{Ahead, Behind}
use Rattle.witness_replay.specs.Columns.{is_reached, reaches_from, value_at}
use Rattle.witness_replay.specs.Directions.{distance_from, is_far, is_near, rows_from}
use Rattle.witness_replay.proofs.GapLemmas.{along, reaches-gap}
use Rattle.witness_replay.proofs.TimelineLemmas.{far-on}
use Rattle.witness_replay.proofs.FirstRows.{IsFirstGap, IsFirstOf, is_candidate}
use Rattle.std.specs.Cmp.{both_ways}

-- a distance between two that are in an interval, or far enough for it, is in it
in-between : (I : Interval) (x y : ℤ) → int_le (pos I.low) x ≡ true → int_le x y ≡ true → is_in I y ≡ true → is_in I x ≡ true
in-between I x y far less near = go I.high ((and_parts (int_le (pos I.low) y) _ near).1)
  where
    go : (high : Option ℕ) → option_map_or (λ b. int_le y (pos b)) high true ≡ true → (int_le (pos I.low) x && option_map_or (λ b. int_le x (pos b)) high true) ≡ true
    go None upper = and_from (int_le (pos I.low) x) true far refl
    go (Some b) upper = and_from (int_le (pos I.low) x) (int_le x (pos b)) far (let h : int_le y (pos b) ≡ true = upper in grind (arith, ints))

module _ (d : Direction) (t : List ℤ) (I : Interval) (right : ℕ → Bool) (gap : Option ℕ) (e : ℕ) where
  abbrev F : Frame ℕ
  F = rows_from d t

  -- row y is not after the first gap
  abbrev is_open : ℕ → Bool
  is_open y = option_map_or (λ g. F.not_after y g) gap true

  abbrev is_witness : ℕ → Bool
  is_witness y = F.not_after e y && (is_near d t I e y && right y && is_open y)

  near-far : (y : ℕ) → is_near d t I e y ≡ true → is_far d t I.low e y ≡ true
  near-far y near = go d near
    where
      go : (d : Direction) → is_near d t I e y ≡ true → is_far d t I.low e y ≡ true
      go Ahead near = (and_parts (is_far Ahead t I.low e y) _ near).0
      go Behind near = (and_parts (is_far Behind t I.low e y) _ near).0

  near-nearer : (w y : ℕ) → is_far d t I.low e w ≡ true → F.not_after w y ≡ true → is_near d t I e y ≡ true → is_near d t I e w ≡ true
  near-nearer w y far before near = go d far before near
    where
      go : (d : Direction) → is_far d t I.low e w ≡ true → (rows_from d t).not_after w y ≡ true → is_near d t I e y ≡ true → is_near d t I e w ≡ true
      go Ahead far before near = in-between I (distance_from Ahead t e w) (distance_from Ahead t e y) far (grind (arith, ints)) near
      go Behind far before near = in-between I (distance_from Behind t e w) (distance_from Behind t e y) far (grind (arith, ints)) near

  open-earlier : (w y : ℕ) → F.not_after w y ≡ true → is_open y ≡ true → is_open w ≡ true
  open-earlier w y before is = go gap is
    where
      go : (gap : Option ℕ) → option_map_or (λ g. F.not_after y g) gap true ≡ true → option_map_or (λ g. F.not_after w g) gap true ≡ true
      go None is = refl
      go (Some g) is = along d t w y g before is

  module _ (witness : Option ℕ) (first : IsFirstOf F (is_candidate d t I.low right e) (length t) witness) where
    nearest-some : (witness : Option ℕ) → IsFirstOf F (is_candidate d t I.low right e) (length t) witness → is_reached d t I witness gap e ≡ true
        → list_any is_witness (range_with_len 0 (length t)) ≡ true
    nearest-some None first is = absurd (cc)
    nearest-some (Some w) first is =
        let (near, opens) = and_parts (is_near d t I e w) (is_open w) is in
        let (far, holds) = and_parts (is_far d t I.low e w) (right w) first.passed in
        some_any is_witness (range_with_len 0 (length t)) w (within_has (length t) w first.within)
        (and_from (F.not_after e w) _ (far-on d t I.low e w far) (and_from (is_near d t I e w && right w) (is_open w) (and_from (is_near d t I e w) (right w) near holds) opens))

    some-nearest : (witness : Option ℕ) → IsFirstOf F (is_candidate d t I.low right e) (length t) witness
        → list_any is_witness (range_with_len 0 (length t)) ≡ true → is_reached d t I witness gap e ≡ true
    some-nearest witness first some =
        let (y, in_, is) = any_some is_witness (range_with_len 0 (length t)) some in
        let (_, rest) = and_parts (F.not_after e y) _ is in
        let (both, opens) = and_parts (is_near d t I e y && right y) (is_open y) rest in
        let (near, holds) = and_parts (is_near d t I e y) (right y) both in
        go witness first y (below (length t) y in_) near holds opens
      where
        go : (witness : Option ℕ) → IsFirstOf F (is_candidate d t I.low right e) (length t) witness → (y : ℕ) → y < length t → is_near d t I e y ≡ true
            → right y ≡ true → is_open y ≡ true → is_reached d t I witness gap e ≡ true
        go None none y within near holds opens =
            let is = and_from (is_far d t I.low e y) (right y) (near-far y near) holds in
            let no = none y within in absurd (cc)
        go (Some w) some y within near holds opens =
            let is = and_from (is_far d t I.low e y) (right y) (near-far y near) holds in
            let before = some.first y within is in
            let (far, _) = and_parts (is_far d t I.low e w) (right w) some.passed in
            and_from (is_near d t I e w) (is_open w) (near-nearer w y far before near) (open-earlier w y before opens)

    pub reached-some : is_reached d t I witness gap e ≡ list_any is_witness (range_with_len 0 (length t))
    reached-some = both_ways _ _ (nearest-some witness first) (some-nearest witness first)

-- the nearest candidate and the first gap decide
pub reached-reaches : (d : Direction) (t : List ℤ) (I : Interval) (left right : List Bool) (witness gap : Option ℕ) (e : ℕ)
    → IsFirstOf (rows_from d t) (is_candidate d t I.low (value_at right) e) (length t) witness
    → IsFirstGap (rows_from d t) (value_at left) e (length t) gap → is_reached d t I witness gap e ≡ reaches_from d t I left right e
reached-reaches d t I left right witness gap e nearest first =
    reached-some d t I (value_at right) gap e witness nearest ∙ reaches-gap d t (value_at left) e gap first (is_near d t I) (value_at right)
