use Rattle.mt_model.specs.Form.{form_of}
use Rattle.formula_arena.specs.Cores.{core_of}
use Rattle.formula_arena.specs.Walks.{steps_in, work}
use Rattle.formula_arena.proofs.Walked.{IsWalk}
use Rattle.formula_arena.proofs.arena.Arena.walk_in.Given as goal

abbrev pub invariant-loop-task : goal.invariant-loop-task
invariant-loop-task l = IsWalk l.fn.self (core_of (form_of l.tree)) (steps_in l.tasks.items) l.self l.waiting.items

abbrev pub decreases-loop-task : goal.decreases-loop-task
decreases-loop-task l = work (steps_in l.tasks.items)
