-- What answers say of the values that a formula can have.
use Rattle.std.specs.Prelude.{◌↔◌, ℕ, ◌≤◌, Bool, true, false, IsTrue}
use Rattle.mt_model.specs.Form.{Form}
use Rattle.mt_model.specs.Log.{Logged}
use Rattle.mt_model.specs.Truth.{IsValue}
use Rattle.skew_bounds.specs.Tight.{IsInconsistent}
use Rattle.cdcl_core.specs.Spent.{CanBeSpent}
use Rattle.least_skew.specs.declared.tolerance.Tolerance.{Tolerance}
use Rattle.least_skew.specs.declared.tolerance.Tolerance.TheVariants as tolerance
use Rattle.least_skew.specs.Least.{IsLeastWidening, wide}

module _ (log : Logged) (f : Form) (v : Bool) (max budget : ℕ) where
  -- a least widening is the least one; never: the value is possible with no widening up to the greatest one; inconsistent: no
  -- timing is admissible with the greatest one; and where a budget was spent, the rules allow that it is
  abbrev pub Tells : Tolerance → Type 0
  Tells (tolerance.Least s times below) = IsLeastWidening log f v s
  Tells (tolerance.Never lines) = (r : ℕ) → r ≤ max → IsValue (wide r log) f v → ⊥
  Tells (tolerance.Inconsistent steps) = IsInconsistent (wide max log)
  Tells (tolerance.Unknown s lines) = CanBeSpent (wide s log) f v budget

-- the answer is bounds in conflict
abbrev pub is_inconsistent : Tolerance → Bool
is_inconsistent (tolerance.Least s times below) = false
is_inconsistent (tolerance.Never lines) = false
is_inconsistent (tolerance.Inconsistent steps) = true
is_inconsistent (tolerance.Unknown s lines) = false

-- the answer is that no timing is admissible exactly where none is with the greatest widening
abbrev pub IsInconsistentExactly : Logged → ℕ → Tolerance → Type 0
IsInconsistentExactly log max t = IsTrue (is_inconsistent t) ↔ IsInconsistent (wide max log)
