use Rattle.mtl_encode.specs.Asked.{IsHeld}
use Rattle.mtl_encode.proofs.asked.Asked.ask.Given as goal

abbrev pub invariant-literals : goal.invariant-literals
invariant-literals l = IsHeld l.scene.rules.now l.self.held
