use Rattle.std.proofs.Common.{ap, refl}
use Rattle.mt_model.specs.Form.{form_of}
use Rattle.formula_arena.specs.Walks.{step_in}
use Rattle.formula_arena.proofs.Walked.{expanded, taken_task}
use Rattle.formula_arena.proofs.arena.Arena.take.Goals as goal

pub returns-in_ok-push_tasks-in-Tree : goal.returns-in_ok-push_tasks-in-Tree
returns-in_ok-push_tasks-in-Tree c =
    expanded c.args.task (form_of c.in-Tree.tree.now) _ _ c.args.self.now c.args.waiting.now.items (ap step_in c.in-Tree.is) c.in_ok-push_tasks-in-Tree.ensures.steps c.requires.held

pub returns-in-True : goal.returns-in-True
returns-in-True c = taken_task _ c.in-True.is (λ trees. refl) refl c.make.ensures

pub returns-in-Prop : goal.returns-in-Prop
returns-in-Prop c = taken_task _ c.in-Prop.is (λ trees. refl) refl c.make_prop.ensures

pub returns-in-Not : goal.returns-in-Not
returns-in-Not c = taken_task _ c.in-Not.is (λ trees. refl) refl c.make_not.ensures

pub returns-in-Over : goal.returns-in-Over
returns-in-Over c = taken_task _ c.in-Over.is (λ trees. refl) refl c.make_over.ensures
