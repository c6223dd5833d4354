-- What a search has from turn to turn, and what it answers.
use Rattle.std.specs.Prelude.{◌≡◌, ℕ, ◌+◌, ◌*◌, ◌^◌, ◌<◌, ◌≤◌, List, length, Bool, false}
use Rattle.axiom_rules.specs.Sought.{sought_of}
use Rattle.proof_log.specs.declared.line.Line.{Line}
use Rattle.proof_log.specs.Derivations.{Refutes}
use Rattle.proof_log.specs.FreshLaws.{IsRefutedByRules}
use Rattle.mtl_encode.specs.declared.problem.Problem.{Problem}
use Rattle.cdcl_core.specs.declared.descent.Conflict.{Conflict}
use Rattle.cdcl_core.specs.declared.descent.Descent.{Descent}
use Rattle.cdcl_core.specs.declared.descent.Descent.TheVariants as descent
use Rattle.cdcl_core.specs.declared.found.Found.{Found}
use Rattle.cdcl_core.specs.declared.state.SearchState.{SearchState}
use Rattle.cdcl_core.specs.Assignments.{IsSatisfying}
use Rattle.cdcl_core.specs.Founds.{IfSpent, IsFound, OfFitting, lessons}
use Rattle.cdcl_core.specs.Searching.{IsMidway, IsSearch, IsStopped, allowance}

-- a search for some problem, after less than a million conflicts
pub record IsUnderWay (s : SearchState) : Type 0 where
  pub problem : Problem
  pub conflicts : ℕ
  pub few : conflicts ≤ 999999
  pub search : IsSearch problem s conflicts

-- its descent stopped in another conflict
pub record HasStoppedIn (s : SearchState) (x : Conflict) : Type 0 where
  pub problem : Problem
  pub conflicts : ℕ
  pub few : conflicts ≤ 999999
  pub stopped : IsStopped problem s conflicts x

-- in which a clause is false
pub record IsFalseIn (s : SearchState) (c : ℕ) : Type 0 where
  pub problem : Problem
  pub conflicts : ℕ
  pub few : conflicts ≤ 999999
  pub midway : IsMidway problem s conflicts c

-- some values satisfy the problem and all that was derived, or a descent stopped in conflict, or was lost where not each order atom has its edges
abbrev pub HasDescended : Problem → SearchState → ℕ → Descent → Type 0
HasDescended p s n (descent.Met values) = IsSearch p s n × IsSatisfying p.atoms s.derived.db s.graph.numbers values
HasDescended p s n (descent.Stopped x) = IsStopped p s n x
HasDescended p s n descent.Lost = s.theory.whole ≡ false

-- the lines refute what the problem fits, with so many lessons; more lines than two a conflict are those of assumed orders
pub record AreRefuting (p : Problem) (whole : Bool) (conflicts : ℕ) (lines : List Line) : Type 0 where
  pub few_lines : length lines ≤ 2 * conflicts + 2 + allowance whole
  pub lesson_count : lessons lines ≡ conflicts
  pub refutes : OfFitting p (λ log f v. Refutes log f v lines)

-- the lines refute the problem of each search in which this clause is false
abbrev pub RefuteMidway : SearchState → ℕ → List Line → Type 0
RefuteMidway s c lines = (p : Problem) (n : ℕ) → IsMidway p s n c → AreRefuting p s.theory.whole n lines

-- propagation over the problem's rules alone refutes nothing that it fits
abbrev pub RulesRefuteNone : Problem → Type 0
RulesRefuteNone p = OfFitting p (λ log f v. IsRefutedByRules (sought_of log f v) p.rules → ⊥)

-- what was found answers whatever the problem fits; and where the budget was spent, it is below three to the power of the
-- number of atoms, and propagation over the rules alone refutes nothing
pub record IsAnswer (p : Problem) (budget : ℕ) (found : Found) : Type 0 where
  pub found_is : OfFitting p (λ log f v. IsFound p budget log f v found)
  pub bounded : IfSpent found (budget < 3 ^ length p.atoms)
  pub refuted_by_rules : IfSpent found (RulesRefuteNone p)
