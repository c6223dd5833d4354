use Rattle.std.proofs.Common.{◌≡◌, ◌↔◌, refl, Bool, false, true, IsTrue, List}
use Rattle.mt_model.specs.declared.step.Step.{Step}
use Rattle.mt_model.specs.Log.{Logged}
use Rattle.proof_check.specs.Cycles.{IsCycle, bound_edge_of}
use Rattle.proof_check.specs.declared.cycle_walk.CycleWalk.{CycleWalk}
use Rattle.proof_check.specs.Walking.{HasWalked, IsCyclic}
use Rattle.proof_check.proofs.WalkLemmas.{cycle_cyclic, cyclic_cycle}
use Rattle.proof_check.proofs.cycle_walk.CycleWalk.place.Goals as goal

found : {w : CycleWalk} (log : Logged) (steps : List Step) → HasWalked log steps w → (b : Bool) → IsTrue b ↔ IsCyclic (bound_edge_of log) steps → b ≡ true → IsCycle log steps
found log steps come b says holds = cyclic_cycle log steps (says.0 holds)

no_cycle : {w : CycleWalk} (log : Logged) (steps : List Step) → HasWalked log steps w → (b : Bool) → IsTrue b ↔ IsCyclic (bound_edge_of log) steps → b ≡ false → IsCycle log steps → ⊥
no_cycle log steps come b says fails is = let holds : b ≡ true = says.1 (cycle_cyclic log steps is) in cc

pub returns-then-is_negative_cycle-clause-accepted : goal.returns-then-is_negative_cycle-clause-accepted
returns-then-is_negative_cycle-clause-accepted c = λ log steps come. (
  λ none. found log steps come c.is_negative_cycle.result (c.is_negative_cycle.ensures (bound_edge_of log) steps come) c.if-is_negative_cycle.true,
  λ is. refl,
)

pub returns-then-is_negative_cycle-clause-excludes : goal.returns-then-is_negative_cycle-clause-excludes
returns-then-is_negative_cycle-clause-excludes c = λ log steps come none t ok.
    let is = found log steps come c.is_negative_cycle.result (c.is_negative_cycle.ensures (bound_edge_of log) steps come) c.if-is_negative_cycle.true in
    c.conflict_excludes_timings.ensures log steps t is.bounds is.conflict ok

pub returns-in-Along-clause-accepted : goal.returns-in-Along-clause-accepted
returns-in-Along-clause-accepted c =
    λ log steps
    come. (λ none. absurd (cc), λ is. absurd (no_cycle log steps come c.is_negative_cycle.result (c.is_negative_cycle.ensures (bound_edge_of log) steps come) c.if-is_negative_cycle.false is))

pub returns-in-Stopped-clause-accepted : goal.returns-in-Stopped-clause-accepted
returns-in-Stopped-clause-accepted c =
    λ log steps
    come. (λ none. absurd (cc), λ is. absurd (no_cycle log steps come c.is_negative_cycle.result (c.is_negative_cycle.ensures (bound_edge_of log) steps come) c.if-is_negative_cycle.false is))
