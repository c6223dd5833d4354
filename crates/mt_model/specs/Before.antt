-- Happened-before over the rows of a log (Lamport, Time, clocks, and the ordering of events in a distributed system, 1978).
use Rattle.std.specs.Prelude.{◌≡◌, ◌⊎◌, ℕ, ◌<◌, List, length, Some, ℤ, ◌≤ℤ◌}
use Rattle.mt_model.specs.Log.{Logged, IsLog}
use Rattle.mt_model.specs.Timing.{Admissible, previous_row, send_of, time_of}

-- row f is the next row of row e's host, or it receives the message that row e sends
abbrev pub IsDirectlyBefore : Logged → ℕ → ℕ → Type 0
IsDirectlyBefore log e f = (f < length log.rows) × ((previous_row log f ≡ Some e) ⊎ (send_of log f ≡ Some e))

-- row e happens before row f: the smallest transitive relation that has each row directly before another
pub data Before (log : Logged) : ℕ → ℕ → Type 0 where
  directly : (e f : ℕ) → IsDirectlyBefore log e f → Before log e f
  through : (e k f : ℕ) → Before log e k → Before log k f → Before log e f

-- what happens before a row is not later than it, in any timing that the log admits
abbrev pub BeforeIsNotLater : Type 0
BeforeIsNotLater = (log : Logged) (e f : ℕ) (t : List ℤ) → IsLog log → Before log e f → Admissible log t → time_of t e ≤ℤ time_of t f

-- a log of which some row happens before itself admits no timing
abbrev pub CyclesExcludeTimings : Type 0
CyclesExcludeTimings = (log : Logged) (e : ℕ) (t : List ℤ) → IsLog log → Before log e e → Admissible log t → ⊥
