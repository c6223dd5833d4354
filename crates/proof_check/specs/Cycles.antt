-- Which steps are accepted as a cycle, and the place that is named where they aren't. Steps count from 1.
use Rattle.std.specs.Prelude.{◌≡◌, ◌⊎◌, ◌≤◌, ◌-◌, ℕ, List, [], ◌∷◌, length, map, take, All, Option, Some, None}
use Rattle.mt_model.specs.declared.step.Step.{Step}
use Rattle.mt_model.specs.declared.step.Step.TheVariants.{Low, High, Rise, Message, Late, Under, Over, Extra, Order}
use Rattle.mt_model.specs.Laws.{IsBound}
use Rattle.mt_model.specs.Log.{Logged}
use Rattle.mt_model.specs.Walks.{Conflict, Edge, LeadsTo, edge_of}

-- the edge of a step that is a bound of the log, which an order step is not
abbrev pub bound_edge_of : Logged → Step → Option Edge
bound_edge_of log (Low e) = edge_of log (Low e)
bound_edge_of log (High e) = edge_of log (High e)
bound_edge_of log (Rise f) = edge_of log (Rise f)
bound_edge_of log (Message r) = edge_of log (Message r)
bound_edge_of log (Late r) = edge_of log (Late r)
bound_edge_of log (Under r) = edge_of log (Under r)
bound_edge_of log (Over r) = edge_of log (Over r)
bound_edge_of log (Extra k) = edge_of log (Extra k)
bound_edge_of log (Order e f c) = None

-- each edge begins where the one before ends
abbrev pub FollowOneAnother : List Edge → Type 0
FollowOneAnother [] = Unit {0}
FollowOneAnother (x ∷ xs) = (b : ℕ) × LeadsTo x.to xs b

-- the steps are bounds of the log, and each begins where the one before ends
pub record IsWalk (log : Logged) (steps : List Step) : Type 0 where
  pub edges : List Edge
  pub found : map (bound_edge_of log) steps ≡ map Some edges
  pub joined : FollowOneAnother edges

-- the steps are bounds of the log, and form a closed walk of negative sum
pub record IsCycle (log : Logged) (steps : List Step) : Type 0 where
  pub bounds : All IsBound steps
  pub conflict : Conflict log steps

-- step n is the first one that isn't a bound of the log or doesn't begin where the one before ends
pub record IsFirstLoose (log : Logged) (steps : List Step) (n : ℕ) : Type 0 where
  pub some : 1 ≤ n
  pub within : n ≤ length steps
  pub before : IsWalk log (take (n - 1) steps)
  pub loose : IsWalk log (take n steps) → ⊥

-- the place that is named: the first such step, or where there is none the last step, which is 0 where there are no steps
abbrev pub IsPlace : Logged → List Step → ℕ → Type 0
IsPlace log steps n = IsFirstLoose log steps n ⊎ (IsWalk log steps × (n ≡ length steps))
