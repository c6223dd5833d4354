-- For which formulas and logs a widening is looked for, and the fault of the others.
use Rattle.std.specs.Prelude.{◌≡◌, ℕ, ◌≤◌, length, None}
use Rattle.mt_model.specs.Form.{Form}
use Rattle.mt_model.specs.Log.{Logged}
use Rattle.mt_model.specs.State.{unknown_host}
use Rattle.formula_arena.specs.Nodes.{nodes_of}
use Rattle.formula_arena.specs.declared.arena.TheConstants.{MAX_NODES}
use Rattle.question.specs.Faults as asked
use Rattle.question.specs.Size.{IsSmall}
use Rattle.question.specs.declared.fault.QuestionFault.{QuestionFault}
use Rattle.least_skew.specs.Least.{wide}

-- the hosts of the formula are in the log, it has few enough nodes, and with the greatest widening their problem is small enough
pub record IsAsked (log : Logged) (f : Form) (max : ℕ) : Type 0 where
  pub hosts : unknown_host log f ≡ None
  pub few : length (nodes_of f) ≤ MAX_NODES
  pub small : IsSmall (wide max log) (nodes_of f)

-- why no widening is looked for: the fault is that of the formula and the log with the greatest widening
abbrev pub IsFault : Logged → Form → ℕ → QuestionFault → Type 0
IsFault log f max fault = asked.IsFault (wide max log) f fault
