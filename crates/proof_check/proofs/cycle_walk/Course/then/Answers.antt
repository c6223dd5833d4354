use Rattle.std.proofs.Common.{[], ◌∷◌, ◌++◌, subst, sym}
use Rattle.proof_check.specs.Walking.{LeadsUpTo}
use Rattle.proof_check.proofs.WalkLemmas.{along_more}
use Rattle.proof_check.proofs.cycle_walk.Course.then.Goals as goal

pub returns-in-Start-clause-leads : goal.returns-in-Start-clause-leads
returns-in-Start-clause-leads c = λ edges steps step is number come.
    let none = rw c.in-Start.is at come in
    subst (λ ss. LeadsUpTo edges (ss ++ step ∷ []) c.begun.result) (sym none) (c.begun.ensures.leads edges step is)

pub returns-in-Along-clause-leads : goal.returns-in-Along-clause-leads
returns-in-Along-clause-leads c = λ edges steps step is number come.
    let follows = rw c.in-Along.is at come in
    c.gone_on.ensures.leads edges steps step is number follows.covers (along_more edges steps step c.in-Along.walk follows)
