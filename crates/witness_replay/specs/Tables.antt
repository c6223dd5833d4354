-- Truth values of the nodes of an arena, for each row of a timing.
use Rattle.std.specs.Prelude.{ℕ, ◌*◌, ◌<◌, List, length, take, drop, Bool, ℤ}
use Rattle.mt_model.specs.Form.{Form}
use Rattle.mt_model.specs.Log.{Logged}
use Rattle.mt_model.specs.Truth.{truth_of}
use Rattle.formula_arena.specs.Nodes.{tree_at}
use Rattle.witness_replay.specs.Columns.{IsColumn}

-- the column of node k in a table of so many rows
abbrev pub column_at : ℕ → List Bool → ℕ → List Bool
column_at rows table k = take rows (drop (k * rows) table)

-- the columns of the nodes below n have the truth of their trees at each row
abbrev pub ColumnsAreTruths : Logged → List ℤ → List Form → ℕ → List Bool → Type 0
ColumnsAreTruths log t trees n table = (k : ℕ) → k < n → IsColumn (length t) (λ e. truth_of log t e (tree_at trees k)) (column_at (length t) table k)
