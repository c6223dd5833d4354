-- Laws of the size of a problem.
use Rattle.std.specs.Prelude.{◌≡◌, ℕ, ◌*◌, ◌^◌, ◌≤◌, List, length}
use Rattle.mt_model.specs.Form.{Form}
use Rattle.mt_model.specs.Log.{Logged}
use Rattle.question.specs.Size.{IsSize, IsSmall, reaches_in}

-- a log and a formula's nodes have one size
abbrev pub SizesAreUnique : Type 0
SizesAreUnique = (log : Logged) (trees : List Form) (m n : ℕ) → IsSize log trees m → IsSize log trees n → m ≡ n

-- where the untils and sinces times the cube of the rows are at most 262,144, the size isn't above the limit
abbrev pub SmallCubesAreSmall : Type 0
SmallCubesAreSmall = (log : Logged) (trees : List Form) → length (reaches_in trees) * length log.rows ^ 3 ≤ 262144 → IsSmall log trees
