-- Orders turned round.
use Rattle.std.specs.Prelude.{◌≡◌, ℕ, ◌+◌, ◌<◌, List, length, slice_get, slice_index}
use Rattle.axiom_rules.specs.declared.literal.Atom.{Atom}

-- so many places, the last one first
pub record AreLastFirst (count : ℕ) (places : List ℕ) : Type 0 where
  pub count_is : length places ≡ count
  pub each : (k : ℕ) → k < count → slice_index places k + k + 1 ≡ count

-- the same atoms, the last one first
pub record AreReversed (old new : List Atom) : Type 0 where
  pub count : length new ≡ length old
  pub each : (k j : ℕ) → j + k + 1 ≡ length old → slice_get new k ≡ slice_get old j
