use Rattle.proof_check.proofs.WalkLemmas.{goes_along, stops_at}
use Rattle.proof_check.proofs.cycle_walk.gone_on.Goals as goal

pub returns-in-Some-clause-leads : goal.returns-in-Some-clause-leads
returns-in-Some-clause-leads c =
    λ edges steps step is number covers begins. goes_along edges steps step c.args.walk c.args.edge c.args.number is number covers begins c.requires.near c.in-Some.further c.in-Some.ensures

pub returns-in-None-clause-leads : goal.returns-in-None-clause-leads
returns-in-None-clause-leads c = λ edges steps step is number covers begins. stops_at edges steps step c.args.walk c.args.edge c.args.number is number covers begins c.in-None.ensures
