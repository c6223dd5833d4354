-- How long a search may take.
use Rattle.std.specs.Prelude.{ℕ, ◌≤◌}

-- a number of conflicts that a search may have
pub record IsBudget (conflicts : ℕ) : Type 0 where
  pub some : 1 ≤ conflicts
  pub most : conflicts ≤ 1000000
