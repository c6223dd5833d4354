-- Whether the bounds of a log can be met.
use Rattle.std.specs.Prelude.{◌≢◌, ℕ, List, All, AllPairs, Option, option_map}
use Rattle.mt_model.specs.declared.step.Step.{Step}
use Rattle.mt_model.specs.Laws.{IsBound}
use Rattle.mt_model.specs.Log.{Logged}
use Rattle.mt_model.specs.Timing.{Admissible}
use Rattle.mt_model.specs.Walks.{Conflict, edge_of}
use Rattle.skew_bounds.specs.declared.consistency.Consistency.{Consistency}
use Rattle.skew_bounds.specs.declared.consistency.Consistency.TheVariants as answer

-- the node at which a step begins, where the log has it
abbrev pub start_of : Logged → Step → Option ℕ
start_of log step = option_map (λ x. x.from) (edge_of log step)

-- no two steps of the walk begin at one node
abbrev pub VisitsOnce : Logged → List Step → Type 0
VisitsOnce log steps = AllPairs (λ p q. start_of log p ≢ start_of log q) steps

-- steps that are bounds of the log and in conflict, and visit no node twice
pub record IsConflict (log : Logged) (steps : List Step) : Type 0 where
  pub bounds : All IsBound steps
  pub conflict : Conflict log steps
  pub once : VisitsOnce log steps

-- an admissible timing, or bounds in conflict
abbrev pub Settles : Logged → Consistency → Type 0
Settles log (answer.Timing t) = Admissible log t
Settles log (answer.Conflict steps) = IsConflict log steps
