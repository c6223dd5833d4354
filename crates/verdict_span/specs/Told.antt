-- What answers say of the timings that give the formula the value.
use Rattle.std.specs.Prelude.{◌↔◌, ℕ, Bool, true, false, IsTrue}
use Rattle.mt_model.specs.Form.{Form}
use Rattle.mt_model.specs.Log.{Logged}
use Rattle.mt_model.specs.Truth.{IsValue}
use Rattle.skew_bounds.specs.Tight.{IsInconsistent}
use Rattle.cdcl_core.specs.Spent.{CanBeSpent}
use Rattle.verdict_span.specs.declared.greatest.Widest.{Widest}
use Rattle.verdict_span.specs.declared.greatest.Widest.TheVariants as widest
use Rattle.verdict_span.specs.Widest.{IsGreatestDistance, searched}

-- a greatest distance is the greatest one; never: the value is impossible; inconsistent: no timing is admissible; and where a
-- budget was spent, the rules allow that it is
abbrev pub Tells : Logged → Form → Bool → ℕ → ℕ → ℕ → Widest → Type 0
Tells log f v e to budget (widest.Greatest d times beyond) = IsGreatestDistance log f v e to d
Tells log f v e to budget (widest.Never lines) = IsValue log f v → ⊥
Tells log f v e to budget (widest.Inconsistent steps) = IsInconsistent log
Tells log f v e to budget (widest.Unknown least lines) = CanBeSpent (searched log f v e to least) f v budget

-- the answer is bounds in conflict
abbrev pub is_inconsistent : Widest → Bool
is_inconsistent (widest.Greatest d times beyond) = false
is_inconsistent (widest.Never lines) = false
is_inconsistent (widest.Inconsistent steps) = true
is_inconsistent (widest.Unknown least lines) = false

-- the answer is that no timing is admissible exactly where none is
abbrev pub IsInconsistentExactly : Logged → Widest → Type 0
IsInconsistentExactly log w = IsTrue (is_inconsistent w) ↔ IsInconsistent log
