-- Laws about logs, timings and walks.
use Rattle.std.specs.Prelude.{◌≡◌, ◌≢◌, ℕ, ◌<◌, List, All, Some, None, ℤ}
use Rattle.mt_model.specs.declared.step.Step.{Step}
use Rattle.mt_model.specs.declared.step.Step.TheVariants.{Low, High, Rise, Message, Late, Under, Over, Extra, Order}
use Rattle.mt_model.specs.Log.{Logged}
use Rattle.mt_model.specs.Timing.{Admissible, host_of, previous_row}
use Rattle.mt_model.specs.Walks.{Conflict}

-- the step is no order step: it is a bound by its kind
abbrev pub IsBound : Step → Type 0
IsBound (Low e) = Unit {0}
IsBound (High e) = Unit {0}
IsBound (Rise f) = Unit {0}
IsBound (Message r) = Unit {0}
IsBound (Late r) = Unit {0}
IsBound (Under e) = Unit {0}
IsBound (Over e) = Unit {0}
IsBound (Extra k) = Unit {0}
IsBound (Order e f c) = ⊥

-- where bounds of a log conflict, the log admits no timing
abbrev pub ConflictExcludesTimings : Type 0
ConflictExcludesTimings = (log : Logged) (steps : List Step) (t : List ℤ) → All IsBound steps → Conflict log steps → Admissible log t → ⊥

-- row e comes before row f and is of its host, and no row between them is
pub record IsLastBefore (log : Logged) (e f : ℕ) : Type 0 where
  pub before : e < f
  pub same_host : host_of log e ≡ host_of log f
  pub none_between : (k : ℕ) → e < k → k < f → host_of log k ≢ host_of log f

-- the previous row of a row is the last one before it of its host, and it has none only where none before it is of its host
pub record PreviousRowIsLast : Type 0 where
  pub found : (log : Logged) (e f : ℕ) → previous_row log f ≡ Some e → IsLastBefore log e f
  pub absent : (log : Logged) (f : ℕ) → previous_row log f ≡ None → (k : ℕ) → k < f → host_of log k ≢ host_of log f
