use Rattle.std.proofs.Common.{◌≡◌, ◌∙◌, [], ◌++◌, ◌<◌, ◌-◌, ap, refl, subst, sym, take}
use Rattle.formula_arena.specs.Walks.{step_in, steps_in, work}
use Rattle.formula_arena.proofs.Walked.{begun, finished, next-operands, next-step, one-waits, walked}
use Rattle.formula_arena.proofs.arena.Arena.walk_in.Goals as goal

pub loop-task-init : goal.loop-task-init
loop-task-init c = begun _ _ c.requires.no_task c.in_ok-extend_from_slice.ensures.items refl c.requires.none_waits

pub take-requires : goal.take-requires
take-requires c =
    let next = next-step c.pop.new.self.items c.in-Some.task c.in-Some.ensures.items in
    record {
      held = c.loop-task.invariant.held;
      operands = next-operands (step_in c.in-Some.task) (steps_in c.pop.new.self.items) c.loop-task.invariant next;
    }

pub loop-task-preserved : goal.loop-task-preserved
loop-task-preserved c =
    let next = next-step c.pop.new.self.items c.in-Some.task c.in-Some.ensures.items in
    walked (step_in c.in-Some.task) (steps_in c.pop.new.self.items) c.loop-task.invariant next c.in_ok-take.ensures

pub loop-task-smaller : goal.loop-task-smaller
loop-task-smaller c =
    let next = next-step c.pop.new.self.items c.in-Some.task c.in-Some.ensures.items in
    subst (λ s. work (steps_in c.take.new.tasks.items) < work s) (sym next) c.in_ok-take.ensures.less

pub pop_waiting-requires : goal.pop_waiting-requires
pop_waiting-requires c =
    let none : c.loop-task.tasks.items ≡ [] =
    c.in_default.ensures.items ∙ ap (λ l. l ++ []) (c.in_default.ensures.rest ∙ ap (λ n. take (n - 1) c.loop-task.tasks.items) c.in_default.ensures.cases.0) in
    one-waits c.loop-task.invariant (ap steps_in none)

pub returns : goal.returns
returns c =
    let none : c.loop-task.tasks.items ≡ [] =
    c.in_default.ensures.items ∙ ap (λ l. l ++ []) (c.in_default.ensures.rest ∙ ap (λ n. take (n - 1) c.loop-task.tasks.items) c.in_default.ensures.cases.0) in
    finished _ _ c.loop-task.invariant (ap steps_in none) c.pop_waiting.ensures.last
