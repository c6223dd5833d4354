-- Laws of skews that grow, and of answers.
use Rattle.std.specs.Prelude.{ℕ, ◌≤◌, Bool, List, ℤ}
use Rattle.mt_model.specs.Form.{Form}
use Rattle.mt_model.specs.Log.{IsLog, Logged}
use Rattle.mt_model.specs.Timing.{Admissible}
use Rattle.mt_model.specs.Truth.{IsValue}
use Rattle.least_skew.specs.declared.tolerance.Tolerance.{Tolerance}
use Rattle.least_skew.specs.Least.{HasWrittenSkews, LeastRight, wide}
use Rattle.least_skew.specs.Told.{IsInconsistentExactly, Tells}
use Rattle.least_skew.specs.declared.widening.TheConstants.{MAX_WIDENING}

-- a timing stays admissible when all skews grow
pub record SkewsMayGrow : Type 0 where
  pub from_none : (log : Logged) (s : ℕ) (t : List ℤ) → Admissible log t → Admissible (wide s log) t
  pub further : (log : Logged) (r s : ℕ) (t : List ℤ) → r ≤ s → Admissible (wide r log) t → Admissible (wide s log) t

-- and the formula keeps its values
abbrev pub ValuesMayGrow : Type 0
ValuesMayGrow = (log : Logged) (f : Form) (v : Bool) (r s : ℕ) → r ≤ s → IsValue (wide r log) f v → IsValue (wide s log) f v

-- so a right answer tells what the formula can have
pub record RightTolerancesAreLeast : Type 0 where
  pub tells : (log : Logged) (f : Form) (v : Bool) (max budget : ℕ) (answer : Tolerance) → IsLog log → HasWrittenSkews log → max ≤ MAX_WIDENING → 1 ≤ budget
      → LeastRight log f v max budget answer → Tells log f v max budget answer
  pub exactly : (log : Logged) (f : Form) (v : Bool) (max budget : ℕ) (answer : Tolerance) → LeastRight log f v max budget answer → IsInconsistentExactly log max answer
