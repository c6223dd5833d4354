-- What is taken from the steps of a Cycle line: a walk, and the literals of its clause.
use Rattle.std.specs.Prelude.{◌≡◌, List}
use Rattle.std.specs.List.{filter_map}
use Rattle.mt_model.specs.declared.step.Step.{Step}
use Rattle.mt_model.specs.Log.{Logged}
use Rattle.mt_model.specs.Walks.{edge_of}
use Rattle.proof_log.specs.Derivations.{negated_step}
use Rattle.proof_check.specs.declared.cycle_walk.CycleWalk.{CycleWalk}
use Rattle.proof_check.specs.Keeping.{Kept, with_pending}
use Rattle.proof_check.specs.Walking.{HasCome}

-- the walk has come along the steps, and the negations of the order steps among them are pending too
abbrev pub TakesSteps : Logged → Kept → List Step → Kept → CycleWalk → Type 0
TakesSteps log old steps new walk = HasCome (edge_of log) steps walk × (new ≡ with_pending old (filter_map negated_step steps))
