-- What atoms mean, told by the rows.
use Rattle.std.proofs.Common.{◌≡◌, ◌∙◌, sym, ap, refl, ℕ, ◌<◌, Bool, true, not, ◌&&◌, List, length, Option, ℤ, pos, ◌-ℤ◌, neg_ℤ, arith}
use Rattle.std.specs.Prelude.{int_le}
use Rattle.std.specs.List.{range_with_len}
use Rattle.std.specs.Option.{option_map_or}
use Rattle.std.proofs.lemmas.Int.{ints}
use Rattle.std.proofs.lemmas.Bool.{and_parts}
use Rattle.mt_model.specs.declared.tree.Interval.{Interval}
use Rattle.mt_model.specs.Form.{Form}
use Rattle.mt_model.specs.Frame.{Frame, is_in, reaches, span, witness}
use Rattle.mt_model.specs.Log.{Logged}
use Rattle.mt_model.specs.Positions.{place_of, positions_of}
use Rattle.mt_model.specs.Timing.{time_of}
use Rattle.mt_model.specs.Truth.{positions_in, rows_in, truth, truth_of}
use Rattle.mt_model.proofs.FrameLemmas.{Carries, is_ahead_same, is_behind_same, span_same, turned_too}
use Rattle.mt_model.proofs.Members.{Among}
use Rattle.mt_model.proofs.PositionLemmas.{below, rows_to_places, truth_of-place, within_has}
use Rattle.formula_arena.specs.Nodes.{tree_at}
use Rattle.formula_arena.specs.Directions.{is_near, met}
use Rattle.formula_arena.specs.declared.direction.Direction.{Direction}
use Rattle.formula_arena.specs.declared.direction.Direction.TheVariants.{Ahead, Behind}
use Rattle.axiom_rules.specs.Shapes.{reach_over}
use Rattle.axiom_rules.specs.declared.literal.Atom.TheVariants.{Node, Wit, Span, Gap}
use Rattle.axiom_rules.specs.Holds.{gap, means, passes}
use Rattle.axiom_rules.specs.Rules.{is_from, is_not_from, is_not_up_to, is_up_to, met_after, met_order, not_met_after, not_met_order}
use Rattle.axiom_rules.proofs.PartLemmas.{from_is, not_after_is, not_order-says, order-says, part_holds}

passes-tree : (test : Direction → Interval → Form → Form → Bool) (direction : Direction) (I : Interval) (f g : Form) → passes test (reach_over direction I f g) ≡ test direction I f g
passes-tree test Ahead I f g = refl
passes-tree test Behind I f g = refl

module _ (log : Logged) (t : List ℤ) (trees : List Form) where
  -- truth at a row
  abbrev pub told : Form → ℕ → Bool
  told f e = truth_of log t e f

  abbrev pub F : Direction → Frame ℕ
  F direction = met direction (rows_in t)

  abbrev G : Direction → Frame ℕ
  G direction = met direction (positions_in (positions_of t))

  carries : (direction : Direction) → Carries (F direction) (G direction) (place_of t)
  carries Ahead = rows_to_places t
  carries Behind = turned_too (rows_in t) (positions_in (positions_of t)) (place_of t) (rows_to_places t)

  points-met : (direction : Direction) → (F direction).points ≡ range_with_len 0 (length t)
  points-met Ahead = refl
  points-met Behind = refl

  pub at_row : (direction : Direction) (e : ℕ) → e < length t → Among (F direction).points e
  at_row direction e low = rw (points-met direction) (within_has (length t) e low)

  pub row_at : (direction : Direction) (e : ℕ) → Among (F direction).points e → e < length t
  row_at direction e in_ = below (length t) e (rw (points-met direction) at in_)

  pub means-node : (k e : ℕ) → e < length t → means log t trees (Node k e) ≡ told (tree_at trees k) e
  means-node k e low = sym (truth_of-place t log (tree_at trees k) e low)

  told-place : (direction : Direction) (f : Form) (e : ℕ) → Among (F direction).points e → told f e ≡ truth log t (place_of t e) f
  told-place direction f e in_ = truth_of-place t log f e (row_at direction e in_)

  spans-same : (direction : Direction) (f : Form) (i j : ℕ) → i < length t → j < length t → span (F direction) (told f) i j ≡ span (G direction) (λ p. truth log t p f) (place_of t i) (place_of t j)
  spans-same direction f i j a b =
      span_same (F direction) (G direction) (place_of t) (carries direction) (λ x y. true) (λ x y. true) (λ x y c d. refl) (told f) (λ p. truth log t p f)
      (told-place direction f) i j (at_row direction i a) (at_row direction j b)

  near-same : (direction : Direction) (I : Interval) (i j : ℕ) → i < length t → j < length t
      → is_near direction (rows_in t) I i j ≡ is_near direction (positions_in (positions_of t)) I (place_of t i) (place_of t j)
  near-same Ahead I i j a b = is_ahead_same (rows_in t) (positions_in (positions_of t)) (place_of t) (rows_to_places t) I i j (within_has (length t) i a) (within_has (length t) j b)
  near-same Behind I i j a b = is_behind_same (rows_in t) (positions_in (positions_of t)) (place_of t) (rows_to_places t) I i j (within_has (length t) i a) (within_has (length t) j b)

  reaches-tree : (direction : Direction) (I : Interval) (f g : Form) (e : ℕ) → told (reach_over direction I f g) e ≡ reaches (F direction) (is_near direction (rows_in t) I) (told f) (told g) e
  reaches-tree Ahead I f g e = refl
  reaches-tree Behind I f g e = refl

  module _ (k : ℕ) (direction : Direction) (I : Interval) (f g : Form) (is : tree_at trees k ≡ reach_over direction I f g) where
    pub means-reaches : (i : ℕ) → i < length t → means log t trees (Node k i) ≡ reaches (F direction) (is_near direction (rows_in t) I) (told f) (told g) i
    means-reaches i a = means-node k i a ∙ ap (λ tree. told tree i) is ∙ reaches-tree direction I f g i

    pub means-span : (i j : ℕ) → i < length t → j < length t → means log t trees (Span k i j) ≡ span (F direction) (told f) i j
    means-span i j a b =
        ap (passes (λ direction I f g. span (G direction) (λ p. truth log t p f) (place_of t i) (place_of t j))) is
        ∙ passes-tree (λ direction I f g. span (G direction) (λ p. truth log t p f) (place_of t i) (place_of t j)) direction I f g
        ∙ sym (spans-same direction f i j a b)

    pub means-wit : (i j : ℕ) → i < length t → j < length t → means log t trees (Wit k i j) ≡ witness (F direction) (is_near direction (rows_in t) I) (told f) (told g) i j
    means-wit i j a b =
        let test : Direction → Interval → Form → Form → Bool =
        λ direction I f g. witness (G direction) (is_near direction (positions_in (positions_of t)) I) (λ p. truth log t p f) (λ p. truth log t p g) (place_of t i) (place_of t j) in
        let there = truth_of-place t log g j b in
        ap (passes test) is ∙ passes-tree test direction I f g ∙ rw (near-same direction I i j a b, there, spans-same direction f i j a b) refl

    pub means-gap : (i m : ℕ) → i < length t → m < length t → means log t trees (Gap k i m) ≡ gap (F direction) (told f) i m
    means-gap i m a b =
        let test : Direction → Interval → Form → Form → Bool = λ direction I f g. gap (G direction) (λ p. truth log t p f) (place_of t i) (place_of t m) in
        let there = truth_of-place t log f m b in
        ap (passes test) is ∙ passes-tree test direction I f g ∙ rw ((carries direction).not_after i m (at_row direction i a) (at_row direction m b), there, spans-same direction f i m a b) refl

  -- how far event e is after event f as the node looks
  abbrev pub distance : Direction → ℕ → ℕ → ℤ
  distance Ahead e f = time_of t e -ℤ time_of t f
  distance Behind e f = time_of t f -ℤ time_of t e

  near-distance : (direction : Direction) (I : Interval) (i j : ℕ) → is_near direction (rows_in t) I i j ≡ is_in I (distance direction j i)
  near-distance Ahead I i j = refl
  near-distance Behind I i j = refl

  met_order-says : (direction : Direction) (e f : ℕ) (c : ℤ) → part_holds (means log t trees) (met_order direction e f c) ≡ int_le (distance direction e f) c
  met_order-says Ahead e f c = order-says (means log t trees) (time_of t) (λ e f c. refl) e f c
  met_order-says Behind e f c = order-says (means log t trees) (time_of t) (λ e f c. refl) f e c

  not_met_order-says : (direction : Direction) (e f : ℕ) (c : ℤ) → part_holds (means log t trees) (not_met_order direction e f c) ≡ not (int_le (distance direction e f) c)
  not_met_order-says Ahead e f c = not_order-says (means log t trees) (time_of t) (λ e f c. refl) e f c
  not_met_order-says Behind e f c = not_order-says (means log t trees) (time_of t) (λ e f c. refl) f e c

  after-distance : (direction : Direction) (e f : ℕ) → int_le (distance direction e f) (pos 0) ≡ (F direction).not_after e f
  after-distance Ahead e f = not_after_is (time_of t e) (time_of t f)
  after-distance Behind e f = not_after_is (time_of t f) (time_of t e)

  pub not_met_after-says : (direction : Direction) (e f : ℕ) → part_holds (means log t trees) (not_met_after direction e f) ≡ (F direction).not_after e f
  not_met_after-says direction e f = met_order-says direction e f (pos 0) ∙ after-distance direction e f

  pub met_after-says : (direction : Direction) (e f : ℕ) → part_holds (means log t trees) (met_after direction e f) ≡ not ((F direction).not_after e f)
  met_after-says direction e f = not_met_order-says direction e f (pos 0) ∙ ap not (after-distance direction e f)

  -- event j is at least the lower bound, and at most the upper one, from event i
  abbrev pub from : Direction → Interval → ℕ → ℕ → Bool
  from direction I i j = int_le (pos I.low) (distance direction j i)

  abbrev pub up_to : Direction → Option ℕ → ℕ → ℕ → Bool
  up_to direction high i j = option_map_or (λ b. int_le (distance direction j i) (pos b)) high true

  from-distance : (direction : Direction) (I : Interval) (i j : ℕ) → int_le (distance direction i j) (neg_ℤ (pos I.low)) ≡ from direction I i j
  from-distance Ahead I i j = from_is (time_of t i) (time_of t j) I.low
  from-distance Behind I i j = from_is (time_of t j) (time_of t i) I.low

  pub is_from-says : (direction : Direction) (I : Interval) (i j : ℕ) → part_holds (means log t trees) (is_from direction I i j) ≡ from direction I i j
  is_from-says direction I i j = met_order-says direction i j (neg_ℤ (pos I.low)) ∙ from-distance direction I i j

  pub is_not_from-says : (direction : Direction) (I : Interval) (i j : ℕ) → part_holds (means log t trees) (is_not_from direction I i j) ≡ not (from direction I i j)
  is_not_from-says direction I i j = not_met_order-says direction i j (neg_ℤ (pos I.low)) ∙ ap not (from-distance direction I i j)

  pub is_up_to-says : (direction : Direction) (b i j : ℕ) → part_holds (means log t trees) (is_up_to direction b i j) ≡ int_le (distance direction j i) (pos b)
  is_up_to-says direction b i j = met_order-says direction j i (pos b)

  pub is_not_up_to-says : (direction : Direction) (b i j : ℕ) → part_holds (means log t trees) (is_not_up_to direction b i j) ≡ not (int_le (distance direction j i) (pos b))
  is_not_up_to-says direction b i j = not_met_order-says direction j i (pos b)

  -- an event is near where it is in both bounds
  pub near-parts : (direction : Direction) (I : Interval) (i j : ℕ) → is_near direction (rows_in t) I i j ≡ (from direction I i j && up_to direction I.high i j)
  near-parts direction I i j = near-distance direction I i j

  at_least : (a : ℕ) (x y : ℤ) → int_le (pos a) (y -ℤ x) ≡ true → int_le x y ≡ true
  at_least a x y h = grind (arith, ints)

  -- what is near lies ahead
  pub near-ahead : (direction : Direction) (I : Interval) (i j : ℕ) → is_near direction (rows_in t) I i j ≡ true → (F direction).not_after i j ≡ true
  near-ahead Ahead I i j h = at_least I.low (time_of t i) (time_of t j) (and_parts (from Ahead I i j) (up_to Ahead I.high i j) h).0
  near-ahead Behind I i j h = at_least I.low (time_of t j) (time_of t i) (and_parts (from Behind I i j) (up_to Behind I.high i j) h).0
