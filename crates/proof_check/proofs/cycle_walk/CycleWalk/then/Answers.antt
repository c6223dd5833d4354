use Rattle.std.proofs.Common.{[], ◌∷◌, arith, length-append}
use Rattle.proof_check.proofs.cycle_walk.CycleWalk.then.Goals as goal

pub returns-clause-walked : goal.returns-clause-walked
returns-clause-walked c = λ edges steps step is come. record {
  count = omega (arith, come.count, length-append steps (step ∷ []));
  course = c.then.ensures.leads edges steps step is (omega (arith, come.count)) come.course;
}
