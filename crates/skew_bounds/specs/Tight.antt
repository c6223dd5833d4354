-- The least and the greatest difference of two rows' times over all timings that a log admits.
use Rattle.std.specs.Prelude.{◌≡◌, ℕ, ◌+◌, ◌-◌, ◌<◌, List, length, ℤ, ◌-ℤ◌, ◌≤ℤ◌, neg_ℤ}
use Rattle.mt_model.specs.declared.step.Step.{Step}
use Rattle.mt_model.specs.Log.{Logged}
use Rattle.mt_model.specs.Timing.{Admissible, time_of}
use Rattle.skew_bounds.specs.declared.tightening.TightFault.{TightFault}
use Rattle.skew_bounds.specs.declared.tightening.TightFault.TheVariants.{Cycle, Memory}
use Rattle.skew_bounds.specs.Differences.{Differences, entry}

-- how long after row e row f comes in a timing
abbrev pub difference : List ℤ → ℕ → ℕ → ℤ
difference t e f = time_of t f -ℤ time_of t e

-- some admissible timing has this difference of rows e and f
pub record IsAttained (log : Logged) (e f : ℕ) (d : ℤ) : Type 0 where
  pub timing : List ℤ
  pub admissible : Admissible log timing
  pub same : difference timing e f ≡ d

-- some admissible timing has this difference of rows e and f, and none has a greater one
pub record IsGreatestDifference (log : Logged) (e f : ℕ) (d : ℤ) : Type 0 where
  pub attained : IsAttained log e f d
  pub bound : (t : List ℤ) → Admissible log t → difference t e f ≤ℤ d

-- some admissible timing has this difference of rows e and f, and none has a smaller one
pub record IsLeastDifference (log : Logged) (e f : ℕ) (d : ℤ) : Type 0 where
  pub attained : IsAttained log e f d
  pub bound : (t : List ℤ) → Admissible log t → d ≤ℤ difference t e f

-- of how many rows a table of differences tells, whose node 0 is the zero moment and whose node e + 1 is row e
abbrev pub events_of : Differences → ℕ
events_of d = d.nodes - 1

-- how long after row e row f comes at most, by a table of differences
abbrev pub greatest_of : Differences → ℕ → ℕ → ℤ
greatest_of d e f = entry d (f + 1) (e + 1)

-- and at least: the most the other way round, negated
abbrev pub least_of : Differences → ℕ → ℕ → ℤ
least_of d e f = neg_ℤ (greatest_of d f e)

-- a table of differences tells of the rows of the log, and what it says of any two is exact
pub record IsTight (log : Logged) (d : Differences) : Type 0 where
  pub events : events_of d ≡ length log.rows
  pub greatest : (e f : ℕ) → e < length log.rows → f < length log.rows → IsGreatestDifference log e f (greatest_of d e f)
  pub least : (e f : ℕ) → e < length log.rows → f < length log.rows → IsLeastDifference log e f (least_of d e f)

-- some timing is admissible
pub record IsConsistent (log : Logged) : Type 0 where
  pub timing : List ℤ
  pub admissible : Admissible log timing

-- no timing is admissible
abbrev pub IsInconsistent : Logged → Type 0
IsInconsistent log = (t : List ℤ) → Admissible log t → ⊥

-- the fact holds of the steps, if the fault is a cycle
abbrev pub IfCycle : TightFault → (List Step → Type 0) → Type 0
IfCycle (Cycle steps) P = P steps
IfCycle Memory P = Unit {0}
