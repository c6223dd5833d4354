use Rattle.std.proofs.Common.{◌≡◌, ◌⊎◌, inl, inr, List, Option, ℕ, subst}
use Rattle.mt_model.specs.declared.step.Step.{Step}
use Rattle.mt_model.specs.Walks.{Edge}
use Rattle.proof_check.specs.declared.cycle_walk.Course.{Course}
use Rattle.proof_check.specs.declared.cycle_walk.Course.TheVariants as course
use Rattle.proof_check.specs.Walking.{IsCyclic, LeadsUpTo}
use Rattle.proof_check.proofs.WalkLemmas.{along_cyclic, none_cyclic, stopped_cyclic}
use Rattle.proof_check.proofs.cycle_walk.CycleWalk.is_negative_cycle.Goals as goal

not_cyclic : (edges : Step → Option Edge) (steps : List Step) (o : Course) → (o ≡ course.Start) ⊎ ((n : ℕ) × (o ≡ course.Stopped n)) → LeadsUpTo edges steps o → IsCyclic edges steps → ⊥
not_cyclic edges steps o (inl is) leads cyclic = none_cyclic edges (subst (IsCyclic edges) (rw is at leads) cyclic)
not_cyclic edges steps o (inr (n, is)) leads cyclic = stopped_cyclic edges steps n (rw is at leads) cyclic

pub returns-in-Along : goal.returns-in-Along
returns-in-Along c = λ edges steps come.
    let follows = rw c.in-Along.is at come.course in
    let cyclic = along_cyclic edges steps c.in-Along.walk follows in
    (λ holds. cyclic.0 (c.is_negative_cycle.ensures.0 holds), λ is. c.is_negative_cycle.ensures.1 (cyclic.1 is))

pub returns-in-Start : goal.returns-in-Start
returns-in-Start c = λ edges steps come. (λ holds. absurd (cc), λ is. absurd (not_cyclic edges steps c.args.self.course c.in-Start.is come.course is))
