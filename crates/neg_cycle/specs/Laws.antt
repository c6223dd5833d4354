-- Laws about potentials and closed walks.
use Rattle.std.specs.Prelude.{◌≡◌, ℕ, List, All, ℤ, pos}
use Rattle.neg_cycle.specs.declared.system.TheConstants.{MAX_NODES, MAX_EDGES, MAX_BOUND}
use Rattle.neg_cycle.specs.declared.system.Edge.{Edge}
use Rattle.neg_cycle.specs.declared.outcome.Outcome.{Outcome}
use Rattle.neg_cycle.specs.Systems.{IsSystem, IsPotential, Meets, IsNegativeCycle, VisitsOnce, IfPotential, IfCycle}

-- where numbers meet every edge, no closed walk over the edges has a negative sum
abbrev pub PotentialExcludesCycles : Type 0
PotentialExcludesCycles = (edges : List Edge) (numbers : List ℤ) (places : List ℕ) → All (Meets numbers) edges → IsNegativeCycle edges places → ⊥

-- there is a potential of the system, or a closed walk of negative sum that visits no node twice
pub record HasOutcome (nodes : ℕ) (edges : List Edge) : Type 0 where
  pub outcome : Outcome
  pub found : IfPotential outcome (IsPotential nodes edges)
  pub cycle : IfCycle outcome (IsNegativeCycle edges)
  pub once : IfCycle outcome (VisitsOnce edges)

-- each system within the limits has an outcome
abbrev pub SystemsHaveOutcomes : Type 0
SystemsHaveOutcomes = (nodes : ℕ) (edges : List Edge) → IsSystem nodes edges → HasOutcome nodes edges

-- the limits of systems; a bound has at most the magnitude 2^90
pub record SystemLimits : Type 0 where
  pub nodes : MAX_NODES ≡ 1048576
  pub edges : MAX_EDGES ≡ 1073741824
  pub bound : MAX_BOUND ≡ pos 1237940039285380274899124224
