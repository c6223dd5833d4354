use Rattle.mtl_encode.specs.Asked.{IsHeld}
use Rattle.mtl_encode.proofs.asked.Asked.add_all.Given as goal

abbrev pub invariant-loop-rule : goal.invariant-loop-rule
invariant-loop-rule l = IsHeld l.scene.rules.now l.self.held
