-- What the least and the greatest differences of events say of a timing that the log admits.
use Rattle.std.proofs.Common.{◌≡◌, ◌∙◌, sym, ℕ, ◌<◌, true, false, List, length, Option, Some, None, inl, inr, ℤ, pos, ◌-ℤ◌, ◌≤ℤ◌, arith}
use Rattle.std.specs.Prelude.{int_le, int_lt}
use Rattle.std.specs.Option.{option_map_or}
use Rattle.std.proofs.lemmas.Bool.{and_parts, cases_Bool, or_cases}
use Rattle.std.proofs.lemmas.Int.{ints}
use Rattle.mt_model.specs.Form.{Form}
use Rattle.mt_model.specs.Log.{Logged}
use Rattle.mt_model.specs.Timing.{Admissible, time_of}
use Rattle.mt_model.specs.Truth.{rows_in}
use Rattle.skew_bounds.specs.Tight.{difference}
use Rattle.formula_arena.specs.Directions.{is_near, met}
use Rattle.formula_arena.specs.declared.direction.Direction.{Direction}
use Rattle.formula_arena.specs.declared.direction.Direction.TheVariants.{Ahead, Behind}
use Rattle.axiom_rules.specs.declared.reach.Reach.{Reach}
use Rattle.axiom_rules.proofs.BoolLemmas.{apart}
use Rattle.axiom_rules.proofs.MeaningLemmas.{distance, from, near-parts, up_to}
use Rattle.question.proofs.Distances.{high-all, le-more}
use Rattle.question.specs.Extremes.{AreExtremes, Extremes, farthest, nearest}
use Rattle.mtl_encode.specs.Needless.{is_always_before, is_always_from, is_always_up_to, is_dead, is_never_before, is_never_from, is_never_up_to, may_be_from}

-- no two events of a timing are further apart than the greatest difference, or nearer than the least
pub record BoundsTimes (x : Extremes) (t : List ℤ) (rows : ℕ) : Type 0 where
  pub greatest : (e f : ℕ) → e < rows → f < rows → difference t e f ≤ℤ x.greatest e f
  pub least : (e f : ℕ) → e < rows → f < rows → x.least e f ≤ℤ difference t e f

pub bounds-times : (log : Logged) (x : Extremes) (t : List ℤ) → AreExtremes log x → Admissible log t → BoundsTimes x t (length log.rows)
bounds-times log x t are ok = record { greatest = λ e f a b. (are.greatest e f a b).bound t ok; least = λ e f a b. (are.least e f a b).bound t ok }

above-not : (a b c : ℤ) → int_lt b a ≡ true → c ≤ℤ b → int_le a c ≡ false
above-not a b c h less = grind (arith, ints)

below-not : (a b c : ℤ) → int_lt c a ≡ true → a ≤ℤ b → int_le b c ≡ false
below-not a b c h less = grind (arith, ints)

between : (a b c : ℤ) → a ≤ℤ b → b ≤ℤ c → a ≤ℤ c
between a b c low high = omega (arith, ints)

pub is-after : (a b g : ℤ) → int_lt g (pos 0) ≡ true → (b -ℤ a) ≤ℤ g → int_le a b ≡ false
is-after a b g h less = grind (arith, ints)

pub is-not-after : (a b g : ℤ) → int_le (pos 0) g ≡ true → g ≤ℤ (b -ℤ a) → int_le a b ≡ true
is-not-after a b g h less = grind (arith, ints)

high-none : (high : Option ℕ) (near d : ℤ) → near ≤ℤ d → option_map_or (λ b. int_lt (pos b) near) high false ≡ true → option_map_or (λ b. int_le d (pos b)) high true ≡ false
high-none None near d less h = absurd (cc)
high-none (Some b) near d less h = below-not near d (pos b) h less

module _ (x : Extremes) (t : List ℤ) (rows : ℕ) (bounded : BoundsTimes x t rows) (log : Logged) (trees : List Form) where
  at-most : (d : Direction) (i j : ℕ) → i < rows → j < rows → distance log t trees d j i ≤ℤ farthest x d i j
  at-most Ahead i j a b = bounded.greatest i j a b
  at-most Behind i j a b = bounded.greatest j i b a

  at-least : (d : Direction) (i j : ℕ) → i < rows → j < rows → nearest x d i j ≤ℤ distance log t trees d j i
  at-least Ahead i j a b = bounded.least i j a b
  at-least Behind i j a b = bounded.least j i b a

  -- what is before always, or never, is so in the timing
  pub always-before-says : (d : Direction) (u : Reach) (i m : ℕ) → u.direction ≡ d → i < rows → m < rows → is_always_before x u m i ≡ true → (met d (rows_in t)).not_after i m ≡ false
  always-before-says Ahead u i m is a b h = is-after (time_of t i) (time_of t m) (x.greatest i m) (rw is at h) (bounded.greatest i m a b)
  always-before-says Behind u i m is a b h = is-after (time_of t m) (time_of t i) (x.greatest m i) (rw is at h) (bounded.greatest m i b a)

  pub never-before-says : (d : Direction) (u : Reach) (i m : ℕ) → u.direction ≡ d → i < rows → m < rows → is_never_before x u m i ≡ true → (met d (rows_in t)).not_after i m ≡ true
  never-before-says Ahead u i m is a b h = is-not-after (time_of t i) (time_of t m) (x.least i m) (rw is at h) (bounded.least i m a b)
  never-before-says Behind u i m is a b h = is-not-after (time_of t m) (time_of t i) (x.least m i) (rw is at h) (bounded.least m i b a)

  module _ (u : Reach) (i j : ℕ) (a : i < rows) (b : j < rows) where
    abbrev D : Direction
    D = u.direction

    low-end : nearest x u.direction i j ≤ℤ distance log t trees u.direction j i
    low-end = at-least u.direction i j a b

    high-end : distance log t trees u.direction j i ≤ℤ farthest x u.direction i j
    high-end = at-most u.direction i j a b

    pub always-from-says : is_always_from x u i j ≡ true → from log t trees u.direction u.interval i j ≡ true
    always-from-says h = le-more (pos u.interval.low) (nearest x u.direction i j) (distance log t trees u.direction j i) h low-end

    pub never-from-says : is_never_from x u i j ≡ true → from log t trees u.direction u.interval i j ≡ false
    never-from-says h = above-not (pos u.interval.low) (farthest x u.direction i j) (distance log t trees u.direction j i) h high-end

    pub always-up_to-says : is_always_up_to x u i j ≡ true → up_to log t trees u.direction u.interval.high i j ≡ true
    always-up_to-says h = high-all u.interval.high (farthest x u.direction i j) (distance log t trees u.direction j i) high-end h

    pub never-up_to-says : is_never_up_to x u i j ≡ true → up_to log t trees u.direction u.interval.high i j ≡ false
    never-up_to-says h = high-none u.interval.high (nearest x u.direction i j) (distance log t trees u.direction j i) low-end h

    -- what is never in reach from below isn't always, and it may not be
    pub never-not-always : is_never_from x u i j ≡ true → is_always_from x u i j ≡ false
    never-not-always h = above-not (pos u.interval.low) (farthest x u.direction i j) (nearest x u.direction i j) h (between _ _ _ low-end high-end)

    pub never-may-not : is_never_from x u i j ≡ true → may_be_from x u i j ≡ false
    never-may-not h = above-not (pos u.interval.low) (farthest x u.direction i j) (farthest x u.direction i j) h (omega (arith, ints))

    -- nor is what is never in reach from above
    pub beyond-not-always : is_never_up_to x u i j ≡ true → is_always_up_to x u i j ≡ false
    beyond-not-always h = high-none u.interval.high (nearest x u.direction i j) (farthest x u.direction i j) (between _ _ _ low-end high-end) h

    -- a pair that is near in the timing isn't dead
    pub near-alive : is_near u.direction (rows_in t) u.interval i j ≡ true → is_dead x u i j ≡ false
    near-alive h =
        let both = and_parts (from log t trees u.direction u.interval i j) (up_to log t trees u.direction u.interval.high i j) (sym (near-parts log t trees u.direction u.interval i j) ∙ h) in
        elim (cases_Bool (is_dead x u i j)) [
          | inr fails ↦ fails
          | inl dead ↦ elim (or_cases (is_never_from x u i j) (is_never_up_to x u i j) dead) [
            | inl never ↦ absurd (apart _ both.0 (never-from-says never))
            | inr never ↦ absurd (apart _ both.1 (never-up_to-says never))
          ]
        ]
