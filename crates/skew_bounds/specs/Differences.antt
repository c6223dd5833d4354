-- Tables of how far the numbers of nodes may be apart.
use Rattle.std.specs.Prelude.{ℕ, ◌-◌, ◌<◌, ◌&&◌, if◌then◌else◌, nat_le, nat_lt, List, [], length, slice_index_or, ℤ, pos, ◌+ℤ◌}
use Rattle.mt_model.specs.Log.{IsWithin}
use Rattle.neg_cycle.specs.Systems.{number_of}
use Rattle.skew_bounds.specs.declared.column.TheConstants.{FAR}

-- numbers of nodes, of which a stretch stands by itself, and the others are those that give the zero moment 0, moved up
pub record Stretch : Type 0 where
  pub raise : ℤ
  pub start : ℕ
  pub own : List ℤ

-- none, which stands for what isn't there
abbrev pub no_stretch : Stretch
no_stretch = record { raise = pos 0; start = 0; own = [] }

-- the number of a node among them
abbrev pub number_in : List ℤ → Stretch → ℕ → ℤ
number_in zero s i = if nat_le s.start i && nat_lt (i - s.start) (length s.own) then number_of s.own (i - s.start) else number_of zero i +ℤ s.raise

-- for each pair of so many nodes the most that the number of the first may be above that of the second: for each second one
-- a stretch, beside the numbers that give the zero moment 0
pub record Differences : Type 0 where
  pub nodes : ℕ
  pub zero : List ℤ
  pub columns : List Stretch

-- the most that the number of node i may be above that of node j
unfoldable pub entry : Differences → ℕ → ℕ → ℤ
entry d i j = number_in d.zero (slice_index_or d.columns j no_stretch) i

-- the entries are far from the ends of a number
abbrev pub AreSmall : Differences → Type 0
AreSmall d = (i j : ℕ) → i < d.nodes → j < d.nodes → IsWithin FAR (entry d i j)

-- a table over the zero moment and any rows, with entries far from the ends of a number
pub record IsOfRows (d : Differences) : Type 0 where
  pub zero_moment : 0 < d.nodes
  pub small : AreSmall d
