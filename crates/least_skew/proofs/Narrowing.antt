-- What a search with one widening says of another.
use Rattle.std.proofs.Common.{◌∙◌, refl, ℕ, ◌≤◌, Bool, List, ℤ}
use Rattle.formula_arena.specs.Nodes.{nodes_of}
use Rattle.mt_model.specs.Form.{Form}
use Rattle.mt_model.specs.Log.{Logged}
use Rattle.mt_model.specs.Timing.{Admissible}
use Rattle.skew_bounds.specs.Differences.{Differences}
use Rattle.skew_bounds.specs.Tight.{IsTight}
use Rattle.question.specs.Size.{IsSmall}
use Rattle.question.specs.SizesFall.{SizesFall}
use Rattle.proof_log.specs.declared.line.Line.{Line}
use Rattle.proof_log.specs.Derivations.{Refutes}
use Rattle.cdcl_core.specs.Values.{GivesValue, RefutesWithin}
use Rattle.best_answer.proofs.SmallSizes.{small-within}
use Rattle.least_skew.specs.Laws.{SkewsMayGrow}
use Rattle.least_skew.specs.Least.{wide}
use Rattle.least_skew.proofs.Sames.{truth-stays}

module _ (log : Logged) (f : Form) (v : Bool) (s r : ℕ) where
  -- a timing that is admissible there too gives the value there too
  pub narrowed-down : (times : List ℤ) → GivesValue (wide s log) f v times → Admissible (wide r log) times → GivesValue (wide r log) f v times
  narrowed-down times gives admissible = record { admissible = admissible; value = truth-stays log r s times 0 f ∙ gives.value }

  -- lines that refute there too are as few
  pub narrowed-above : (budget : ℕ) (lines : List Line) → RefutesWithin (wide s log) f v budget lines → Refutes (wide r log) f v lines → RefutesWithin (wide r log) f v budget lines
  narrowed-above budget lines found refutes = record { refutes = refutes; few_lessons = found.few_lessons; few = found.few }

-- where the problem is small enough with the greatest widening, it is with each smaller one
pub small-below : SizesFall → SkewsMayGrow → (log : Logged) (f : Form) (max : ℕ) (times : List ℤ) (d : Differences) → Admissible (wide max log) times → IsTight (wide max log) d
    → IsSmall (wide max log) (nodes_of f) → (s : ℕ) → s ≤ max → IsSmall (wide s log) (nodes_of f)
small-below fall grow log f max times d admissible tight small s within =
    small-within fall (wide s log) (wide max log) f times d admissible tight small (record { rows = refl; admits = λ t ok. grow.further log s max t within ok })
