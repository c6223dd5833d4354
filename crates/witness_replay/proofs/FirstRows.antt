-- The first row, as rows are met, that passes a test.
use Rattle.std.specs.Prelude.{◌≡◌, ◌<◌, ℕ, ℤ, List, Bool, true, false, not, ◌&&◌, MatchOption, Option}
use Rattle.mt_model.specs.Frame.{Frame}
use Rattle.formula_arena.specs.declared.direction.Direction.{Direction}
use Rattle.witness_replay.specs.Directions.{is_far}

-- no row among so many that passes a test is before row g, which does
pub record IsFirst (F : Frame ℕ) (passes : ℕ → Bool) (rows g : ℕ) : Type 0 where
  pub within : g < rows
  pub passed : passes g ≡ true
  pub first : (m : ℕ) → m < rows → passes m ≡ true → F.not_after g m ≡ true

-- the first row among so many that passes a test, where there is one
abbrev pub IsFirstOf : Frame ℕ → (ℕ → Bool) → ℕ → Option ℕ → Type 0
IsFirstOf F passes rows found = MatchOption found ((m : ℕ) → m < rows → passes m ≡ false) (IsFirst F passes rows)

-- row m is from row e on, and the test fails there
abbrev pub is_gap : Frame ℕ → (ℕ → Bool) → ℕ → ℕ → Bool
is_gap F test e m = F.not_after e m && not (test m)

-- the first gap among so many rows, where there is one
abbrev pub IsFirstGap : Frame ℕ → (ℕ → Bool) → ℕ → ℕ → Option ℕ → Type 0
IsFirstGap F test e rows gap = IsFirstOf F (is_gap F test e) rows gap

-- row m is at least so far from row e on, and the test holds there
abbrev pub is_candidate : Direction → List ℤ → ℕ → (ℕ → Bool) → ℕ → ℕ → Bool
is_candidate d t low test e m = is_far d t low e m && test m
