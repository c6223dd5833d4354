use Rattle.std.proofs.Common.{[], ◌∷◌, arith, subst, sym}
use Rattle.proof_check.specs.declared.walk.Walk.{Walk}
use Rattle.proof_check.specs.Walking.{BeginsAt, Covers}
use Rattle.proof_check.proofs.WalkLemmas.{begins_first, covers_none}
use Rattle.proof_check.proofs.cycle_walk.begun.Goals as goal

pub returns-in-Some-clause-leads : goal.returns-in-Some-clause-leads
returns-in-Some-clause-leads c = λ edges step is.
    c.gone_on.ensures.leads edges [] step (rw c.in-Some.is at is) (omega arith)
    (subst (Covers edges []) (sym c.at.ensures) (covers_none edges c.in-Some.first.from))
    (subst (λ (w : Walk). BeginsAt edges (step ∷ []) w.start) (sym c.at.ensures) (begins_first edges step c.args.edge c.in-Some.first is c.in-Some.is))
