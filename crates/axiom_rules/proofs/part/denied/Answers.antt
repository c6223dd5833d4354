use Rattle.std.proofs.lemmas.Int.{to_z-of_z}
use Rattle.axiom_rules.proofs.Negations.{negation-fits, negation_less-fits}
use Rattle.axiom_rules.proofs.part.denied.Goals as goal

pub overflow_sub-result : goal.overflow_sub-result
overflow_sub-result c = simp (to_z-of_z, c.ranges.c) (negation-fits c.args.c c.requires)

pub overflow_sub-result-2 : goal.overflow_sub-result-2
overflow_sub-result-2 c = simp (to_z-of_z, c.ranges.c, negation-fits c.args.c c.requires) (negation_less-fits c.args.c c.requires)
