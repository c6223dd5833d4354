use Rattle.axiom_rules.proofs.ShapeLemmas.{AreFirstShapes}
use Rattle.axiom_rules.proofs.shape.shapes.Given as goal

abbrev pub invariant-loop-k : goal.invariant-loop-k
invariant-loop-k l = AreFirstShapes l.log l.arena (l.list).items l.k
