-- Which answers are right for a log, a formula, a value, the greatest widening and a budget of conflicts for each search.
use Rattle.std.specs.Prelude.{◌≡◌, ℕ, ◌-◌, ◌<◌, ◌≤◌, Bool, List, Option, Some, None, ℤ, pos, ◌≤ℤ◌, All}
use Rattle.mt_model.specs.declared.limits.TheConstants.{MAX_WRITTEN_SKEW}
use Rattle.mt_model.specs.Form.{Form}
use Rattle.mt_model.specs.Log.{Logged, widened}
use Rattle.mt_model.specs.Truth.{IsValue}
use Rattle.skew_bounds.specs.Consistency.{IsConflict}
use Rattle.skew_bounds.specs.Tight.{IsConsistent}
use Rattle.proof_log.specs.declared.line.Line.{Line}
use Rattle.cdcl_core.specs.Values.{GivesValue, RefutesWithin, SpendsWithin}
use Rattle.least_skew.specs.declared.tolerance.Tolerance.{Tolerance}
use Rattle.least_skew.specs.declared.tolerance.Tolerance.TheVariants as tolerance

-- the log with all skews widened by s
abbrev pub wide : ℕ → Logged → Logged
wide s log = widened (pos s) log

-- no skew of the log, of a host or of a resync, is above the greatest that a log file may state
pub record HasWrittenSkews (log : Logged) : Type 0 where
  pub hosts : All (λ h. h.skew ≤ℤ MAX_WRITTEN_SKEW) log.hosts
  pub resyncs : All (λ r. r.skew ≤ℤ MAX_WRITTEN_SKEW) log.resyncs

module _ (log : Logged) (f : Form) (v : Bool) where
  -- what there is directly below s: nothing where s is 0, and else lines that refute the value with the widening s - 1
  abbrev pub IsBelow : ℕ → ℕ → Option (List Line) → Type 0
  IsBelow budget s None = s ≡ 0
  IsBelow budget s (Some lines) = (1 ≤ s) × RefutesWithin (wide (s - 1) log) f v budget lines

  -- s is at most the greatest widening; with s the timing gives the value, and with s - 1, where there is one, the lines refute it
  pub record IsLeast (max budget s : ℕ) (times : List ℤ) (below : Option (List Line)) : Type 0 where
    pub within : s ≤ max
    pub gives : GivesValue (wide s log) f v times
    pub refuted : IsBelow budget s below

  -- with the greatest widening some timing is admissible, and the lines refute the value
  pub record IsNever (max budget : ℕ) (lines : List Line) : Type 0 where
    pub consistent : IsConsistent (wide max log)
    pub refuted : RefutesWithin (wide max log) f v budget lines

  -- s is at most the greatest widening; with s some timing is admissible, and the lines spend the budget
  pub record IsUnknown (max budget s : ℕ) (lines : List Line) : Type 0 where
    pub within : s ≤ max
    pub spent : SpendsWithin (wide s log) f v budget lines

  -- the answer is right
  abbrev pub LeastRight : ℕ → ℕ → Tolerance → Type 0
  LeastRight max budget (tolerance.Least s times below) = IsLeast max budget s times below
  LeastRight max budget (tolerance.Never lines) = IsNever max budget lines
  LeastRight max budget (tolerance.Inconsistent steps) = IsConflict (wide max log) steps
  LeastRight max budget (tolerance.Unknown s lines) = IsUnknown max budget s lines

  -- the formula can have the value with the widening s, and with no smaller one
  pub record IsLeastWidening (s : ℕ) : Type 0 where
    pub can : IsValue (wide s log) f v
    pub none_below : (r : ℕ) → r < s → IsValue (wide r log) f v → ⊥
