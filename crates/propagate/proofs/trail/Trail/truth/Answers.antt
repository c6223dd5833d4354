use Rattle.propagate.proofs.ClauseLemmas.{truth_is}
use Rattle.propagate.proofs.trail.Trail.truth.Goals as goal

pub returns-in-Some : goal.returns-in-Some
returns-in-Some c = record { truth = truth_is c.args.self.now.entries c.args.lit c.in-Some.value c.positive.result (rw c.var.ensures.variable at c.in-Some.ensures.value) c.positive.ensures.sense }
