-- Which formulas are judged of a log, and why one isn't.
use Rattle.std.specs.Prelude.{◌≡◌, ◌<◌, ℕ, length, Some, None}
use Rattle.mt_model.specs.Form.{Form}
use Rattle.mt_model.specs.Log.{Logged}
use Rattle.mt_model.specs.State.{unknown_host}
use Rattle.formula_arena.specs.declared.fault.ArenaFault.{ArenaFault}
use Rattle.formula_arena.specs.declared.fault.ArenaFault.TheVariants as arena
use Rattle.formula_arena.specs.Nodes.{nodes_of}
use Rattle.formula_arena.specs.declared.arena.TheConstants.{MAX_NODES}
use Rattle.question.specs.Asked.{HasFewNodes}
use Rattle.question.specs.Size.{IsSize, IsSmall}
use Rattle.question.specs.declared.size.TheConstants.{MAX_SIZE}
use Rattle.question.specs.declared.fault.QuestionFault.{QuestionFault}
use Rattle.question.specs.declared.fault.QuestionFault.TheVariants as fault

-- the formula is judged of the log: it can be asked of it, and the size of their problem isn't above the limit
pub record IsJudged (log : Logged) (f : Form) : Type 0 where
  pub nodes : HasFewNodes log f
  pub small : IsSmall log (nodes_of f)

-- the hosts of the formula are in the log, and it has too many nodes
pub record HasTooManyNodes (log : Logged) (f : Form) : Type 0 where
  pub hosts : unknown_host log f ≡ None
  pub many : MAX_NODES < length (nodes_of f)

-- the formula can be asked of the log, and the size of its problem, which is this one, is above the limit
pub record IsTooLarge (log : Logged) (f : Form) (n : ℕ) : Type 0 where
  pub nodes : HasFewNodes log f
  pub size : IsSize log (nodes_of f) n
  pub large : MAX_SIZE < n

-- the formula isn't judged of the log, and this says why; want of memory says nothing
abbrev pub IsFault : Logged → Form → QuestionFault → Type 0
IsFault log f (fault.UnknownHost index) = unknown_host log f ≡ Some index
IsFault log f fault.TooManyNodes = HasTooManyNodes log f
IsFault log f (fault.TooLarge n) = IsTooLarge log f n
IsFault log f fault.Memory = Unit {0}

-- the fault that a fault of an arena is
abbrev pub IsOfArena : ArenaFault → QuestionFault → Type 0
IsOfArena arena.TooManyNodes f = f ≡ fault.TooManyNodes
IsOfArena arena.Memory f = f ≡ fault.Memory
