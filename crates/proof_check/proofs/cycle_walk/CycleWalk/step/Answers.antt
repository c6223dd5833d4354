use Rattle.proof_check.specs.Cycles.{bound_edge_of}
use Rattle.proof_check.proofs.cycle_walk.CycleWalk.step.Goals as goal

pub returns-clause-walked : goal.returns-clause-walked
returns-clause-walked c = λ steps come. c.then.ensures.walked (bound_edge_of c.args.log.now) steps c.args.step c.bound_edge.ensures.edge come
