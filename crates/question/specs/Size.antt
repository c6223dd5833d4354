-- How large the problem of a log and a formula is.
use Rattle.std.specs.Prelude.{◌≡◌, ◌⊎◌, ℕ, ◌+◌, ◌*◌, ◌^◌, ◌≤◌, Bool, true, false, if◌then◌else◌, List, length, filter, count_by, sum_by}
use Rattle.std.specs.List.{range_with_len}
use Rattle.mt_model.specs.declared.tree.Interval.{Interval}
use Rattle.mt_model.specs.Form.{Form, True, Until, Since}
use Rattle.mt_model.specs.Log.{Logged}
use Rattle.skew_bounds.specs.Tight.{IsConsistent, IsInconsistent}
use Rattle.formula_arena.specs.declared.direction.Direction.{Direction}
use Rattle.formula_arena.specs.declared.direction.Direction.TheVariants.{Ahead, Behind}
use Rattle.question.specs.declared.size.TheConstants.{MAX_SIZE}
use Rattle.question.specs.Extremes.{AreExtremes, Extremes, is_live}

-- a tree is an until or a since
abbrev pub is_reach : Form → Bool
is_reach (Until I f g) = true
is_reach (Since I f g) = true
is_reach _ = false

-- the until and since trees among the nodes
abbrev pub reaches_in : List Form → List Form
reaches_in trees = filter is_reach trees

-- a tree is `true`
abbrev pub is_true : Form → Bool
is_true True = true
is_true _ = false

-- how many pairs of so many rows are live for an interval, as an until or a since looks
unfoldable pub live_pairs : Extremes → Direction → Interval → ℕ → ℕ
live_pairs x direction I rows = sum_by (λ i. count_by (is_live x direction I i) (range_with_len 0 rows)) (range_with_len 0 rows)

-- the size of an until or a since: the square of the rows and, unless its left side is `true`, the rows times the live pairs
abbrev pub reach_size : Extremes → ℕ → Direction → Interval → Bool → ℕ
reach_size x rows direction I free = rows ^ 2 + (if free then 0 else rows * live_pairs x direction I rows)

-- the size of one tree
abbrev pub tree_size : Extremes → ℕ → Form → ℕ
tree_size x rows (Until I f g) = reach_size x rows Ahead I (is_true f)
tree_size x rows (Since I f g) = reach_size x rows Behind I (is_true f)
tree_size x rows _ = 0

-- the size of the trees, by how far apart the rows may be
abbrev pub size_by : Extremes → ℕ → List Form → ℕ
size_by x rows trees = sum_by (tree_size x rows) trees

-- some timing is admissible, and this is the size of the trees
pub record IsSizeByExtremes (log : Logged) (trees : List Form) (n : ℕ) : Type 0 where
  pub consistent : IsConsistent log
  pub extremes : Extremes
  pub are : AreExtremes log extremes
  pub size : n ≡ size_by extremes (length log.rows) trees

-- the size of the problem of a log and a formula's nodes: 0 where no timing is admissible
abbrev pub IsSize : Logged → List Form → ℕ → Type 0
IsSize log trees n = (IsInconsistent log × (n ≡ 0)) ⊎ IsSizeByExtremes log trees n

-- no size of the problem is above the limit
abbrev pub IsSmall : Logged → List Form → Type 0
IsSmall log trees = (n : ℕ) → IsSize log trees n → n ≤ MAX_SIZE
