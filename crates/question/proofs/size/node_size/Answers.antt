use Rattle.skew_bounds.specs.Tight.{events_of}
use Rattle.question.proofs.SizeLemmas.{proposition-none}
use Rattle.question.specs.Extremes.{extremes_of}
use Rattle.question.proofs.size.node_size.Goals as goal

pub returns-in-Prop-clause-size : goal.returns-in-Prop-clause-size
returns-in-Prop-clause-size c = let is = c.in-Prop.ensures.node in rw is.1 (proposition-none (extremes_of c.args.tight.now) (events_of c.args.tight.now) c.args.arena.now _ is.0)
