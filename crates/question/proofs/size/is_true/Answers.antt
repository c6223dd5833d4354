use Rattle.question.proofs.SizeLemmas.{proposition-not-true}
use Rattle.question.proofs.size.is_true.Goals as goal

pub returns-in-Prop : goal.returns-in-Prop
returns-in-Prop c = let is = c.in-Prop.ensures.node in rw is.1 (proposition-not-true c.args.arena.now _ is.0)
